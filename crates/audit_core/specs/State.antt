-- Statement: what a contract sees of an audit under way.
use Rattle.std.specs.Prelude.{◌≡◌, ℕ, ◌+◌, if◌then◌else◌, List, Bool, Some, None}
use Rattle.knx_base.specs.declared.address.IndAddr.{IndAddr}
use Rattle.key_tables.specs.declared.types.Lane.{Lane}
use Rattle.key_tables.specs.declared.types.Row.{Row}
use Rattle.judge_rules.specs.declared.verdict.Verdict.{Verdict}
use Rattle.judge_rules.specs.declared.verdict.Verdict.TheVariants as verdict
use Rattle.judge_rules.specs.Checks.{Kept}
use Rattle.sync_service.specs.Open.{Book, Asked, asked_in, with_pair}
use Rattle.audit_core.specs.declared.line.Line.{Line}
use Rattle.key_tables.specs.Lanes.{same_lane}
use Rattle.audit_core.specs.Audit.{AllKept, audit_mark, audit_asked, Total, total_of, telegram_in, kept_of, line_under, is_exchange, challenge_in, is_accepted, is_sync, has_alarm}
use Rattle.audit_core.specs.Marks.{mark_in}

pub record AuditState : Type 0 where
  -- the rows that frames are judged under
  pub rows : List Row
  -- lanes with their marks
  pub marks : AllKept
  -- requesters and responders with their challenges
  pub asked : Book
  -- of the frames that were taken
  pub total : Total

-- the state is the one after these records
pub record Knows (state : AuditState) (past : List (List ℕ)) : Type 0 where
  pub marks : (lane : Lane) → mark_in state.marks lane ≡ audit_mark state.rows past lane
  pub asked : asked_in state.asked ≡ audit_asked state.rows past
  pub total : state.total ≡ total_of state.rows past

-- ---- one step

-- the mark of a lane, where this is kept of a frame
abbrev pub raised : Kept → Lane → ℕ → ℕ
raised None lane mark = mark
raised (Some kept) lane mark = if same_lane kept.0 lane then kept.1 else mark

-- the challenges, where this was said of a telegram from one device to another
abbrev pub exchanged : IndAddr → IndAddr → Verdict → Asked → Asked
exchanged source destination (verdict.SyncAsk _ challenge) before = with_pair source destination (Some challenge) before
exchanged source destination (verdict.SyncAnswer _ _) before = with_pair destination source None before
exchanged source destination _ before = before

-- the challenges, where this is the line of a frame
abbrev pub noted : Line → Asked → Asked
noted line asked requester responder =
    if is_exchange requester responder line.verdict line.addresses then challenge_in line.verdict
    else asked requester responder

abbrev pub one_if : Bool → ℕ
one_if holds = if holds then 1 else 0

-- a total with one line more
abbrev pub with_line : Line → Total → Total
with_line line total = record {
  records = total.records + 1;
  accepted = total.accepted + one_if (is_accepted line);
  synchronised = total.synchronised + one_if (is_sync line);
  alarms = total.alarms + one_if (has_alarm line);
}

-- One frame was taken, and this is its line.
pub record Steps (old new : AuditState) (octets : List ℕ) (line : Line) : Type 0 where
  pub rows : new.rows ≡ old.rows
  pub line_is : line ≡ line_under old.rows (old.total.records + 1) (mark_in old.marks) (asked_in old.asked)
      (telegram_in octets)
  pub marks : (lane : Lane)
      → mark_in new.marks lane ≡ raised (kept_of old.rows (mark_in old.marks) (asked_in old.asked) (telegram_in octets))
      lane (mark_in old.marks lane)
  pub asked : asked_in new.asked ≡ noted line (asked_in old.asked)
  pub total : new.total ≡ with_line line old.total
