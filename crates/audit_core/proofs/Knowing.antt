-- One record more: the running state is the one after all records with it.
use Rattle.std.proofs.Common.{◌≡◌, ℕ, ◌+◌, ◌<◌, ◌≤◌, max, Bool, true, false, cond, List, ◌∷◌, length, find, Option, Some, None, Result, Ok, Err, refl, sym, ap, subst, ◌∙◌, arith}
use Rattle.std.specs.Prelude.{if◌then◌else◌, IfOk, OnOk}
use Rattle.std.specs.List.{filter}
use Rattle.std.specs.Option.{option_and_then}
use Rattle.cemi_frames.specs.Frames.{Telegram}
use Rattle.cemi_frames.specs.declared.frame.NotFrame.{NotFrame}
use Rattle.key_tables.specs.declared.types.Lane.{Lane}
use Rattle.key_tables.specs.declared.types.Row.{Row}
use Rattle.judge_rules.specs.Checks.{lane_in, Kept}
use Rattle.judge_rules.proofs.Keeping.{kept_by-parts}
use Rattle.audit_core.specs.declared.line.Line.{Line}
use Rattle.sync_service.specs.Open.{Asked, asked_in}
use Rattle.key_tables.specs.Lanes.{same_lane}
use Rattle.audit_core.specs.Audit.{AllKept, greatest_on, mark_under, asked_under, telegram_in, kept_of, opened_of, with_kept, all_kept, judged_of, is_exchange, challenge_in, audit_mark, audit_asked, line_of, apdu_of, line_under, lines_of, total_of, is_accepted, is_sync, has_alarm}
use Rattle.audit_core.specs.State.{AuditState, Knows, Steps, raised, noted, one_if, with_line}
use Rattle.key_tables.proofs.LaneOrder.{same_lane-is}

-- ---- marks

greater_is_max : (n m : ℕ) → m ≤ n → n ≡ max n m
greater_is_max n m less = grind (arith, less)

raise_is_max : (same : Bool) (n m : ℕ) → (same ≡ true → m ≤ n) → (if same then n else m) ≡ max (if same then n else 0) m
raise_is_max true n m less = greater_is_max n m (less refl)
raise_is_max false n m less = grind (arith)

-- what is kept above the mark of its lane is its greatest
raised_is_greatest : (kept : Kept) (before : AllKept) (lane : Lane)
    → ((k : Lane × ℕ) → kept ≡ Some k → greatest_on before k.0 ≤ k.1)
    → raised kept lane (greatest_on before lane) ≡ greatest_on (with_kept kept before) lane
raised_is_greatest None before lane above = refl
raised_is_greatest (Some k) before lane above =
    raise_is_max (same_lane k.0 lane) k.1 (greatest_on before lane)
    (λ same. subst (λ l. greatest_on before l ≤ k.1) (same_lane-is k.0 lane same) (above k refl))

kept_is_above : (rows : List Row) (marks : Lane → ℕ) (asked : Asked) (r : Result Telegram NotFrame) (k : Lane × ℕ)
    → kept_of rows marks asked r ≡ Some k → marks k.0 ≤ k.1
kept_is_above rows marks asked (Err fault) k said = absurd cc
kept_is_above rows marks asked (Ok t) k said =
    let kept = kept_by-parts rows (mark_under marks (lane_in rows t)) (asked_under asked t) t k said in
    let above : mark_under marks (Some k.0) < k.1 =
    subst (λ l. mark_under marks l < k.1) kept.on_lane kept.above in grind (arith, above)

mark_after : (rows : List Row) (past : List (List ℕ)) (octets : List ℕ) (lane : Lane)
    → raised (kept_of rows (audit_mark rows past) (audit_asked rows past) (telegram_in octets)) lane
    (audit_mark rows past lane) ≡ audit_mark rows (octets ∷ past) lane
unfolding judged_of
mark_after rows past octets lane =
    raised_is_greatest (kept_of rows (audit_mark rows past) (audit_asked rows past) (telegram_in octets))
    (all_kept (judged_of rows past)) lane
    (kept_is_above rows (audit_mark rows past) (audit_asked rows past) (telegram_in octets))

-- ---- challenges

found_first : {A B : Type 0} (is : Bool) (x : A) (others : Option A) (f : A → Option B)
    → (if is then f x else option_and_then f others) ≡ option_and_then f (cond is (Some x) others)
found_first true x others f = refl
found_first false x others f = refl

asked_after : (rows : List Row) (past : List (List ℕ)) (octets : List ℕ)
    → noted (line_of rows past octets) (audit_asked rows past) ≡ audit_asked rows (octets ∷ past)
unfolding judged_of
asked_after rows past octets = λ i requester responder.
    found_first (is_exchange requester responder (line_of rows past octets).verdict
    (line_of rows past octets).addresses) (line_of rows past octets)
    (find (λ line. is_exchange requester responder line.verdict line.addresses) (lines_of rows past))
    (λ line. challenge_in line.verdict) i

-- ---- the total

length_of_either : (b : Bool) (line : Line) (lines : List Line)
    → length (if b then line ∷ lines else lines) ≡ length lines + one_if b
length_of_either true line lines = grind (arith)
length_of_either false line lines = grind (arith)

total_after : (rows : List Row) (past : List (List ℕ)) (octets : List ℕ)
    → with_line (line_of rows past octets) (total_of rows past) ≡ total_of rows (octets ∷ past)
unfolding judged_of
total_after rows past octets = λ i. record {
  records = counted i;
  accepted = sym (length_of_either (is_accepted (line_of rows past octets)) (line_of rows past octets)
      (filter is_accepted (lines_of rows past))) i;
  synchronised = sym (length_of_either (is_sync (line_of rows past octets)) (line_of rows past octets)
      (filter is_sync (lines_of rows past))) i;
  alarms = sym (length_of_either (has_alarm (line_of rows past octets)) (line_of rows past octets)
      (filter has_alarm (lines_of rows past))) i;
} where
  counted : length past + 1 ≡ length (octets ∷ past)
  counted = grind (arith)

-- ---- one step

pub knows_next : (old new : AuditState) (past : List (List ℕ)) (octets : List ℕ) (line : Line) → Knows old past
    → Steps old new octets line
    → (line ≡ line_of old.rows past octets) × Knows new (octets ∷ past)
knows_next old new past octets line knows steps =
    let is_line : line ≡ line_of old.rows past octets
    = steps.line_is ∙ (λ i. line_under old.rows ((knows.total i).records + 1) (λ lane. knows.marks lane i)
    (knows.asked i) (telegram_in octets)) in (
      is_line,
      record {
        marks = λ lane. steps.marks lane
            ∙ (λ i. raised (kept_of old.rows (λ other. knows.marks other i) (knows.asked i) (telegram_in octets)) lane
            (knows.marks lane i))
            ∙ mark_after old.rows past octets lane
            ∙ ap (λ rows. audit_mark rows (octets ∷ past) lane) (sym steps.rows);
        asked = steps.asked ∙ (λ i. noted (is_line i) (knows.asked i)) ∙ asked_after old.rows past octets
            ∙ ap (λ rows. audit_asked rows (octets ∷ past)) (sym steps.rows);
        total = steps.total ∙ (λ i. with_line (is_line i) (knows.total i)) ∙ total_after old.rows past octets
            ∙ ap (λ rows. total_of rows (octets ∷ past)) (sym steps.rows);
      },
    )

pub line_after : {E : Type 0} (old new : AuditState) (past : List (List ℕ)) (octets : List ℕ) (result : Result Line E)
    → Knows old past
    → IfOk result (λ line. Steps old new octets line) → IfOk result (λ line. line ≡ line_of old.rows past octets)
line_after old new past octets (Ok line) knows steps = (knows_next old new past octets line knows steps).0
line_after old new past octets (Err fault) knows steps = steps

pub knows_after : {E : Type 0} (old new : AuditState) (past : List (List ℕ)) (octets : List ℕ) (result : Result Line E)
    → Knows old past
    → IfOk result (λ line. Steps old new octets line) → OnOk result (Knows new (octets ∷ past))
knows_after old new past octets (Ok line) knows steps = (knows_next old new past octets line knows steps).1
knows_after old new past octets (Err fault) knows steps = steps

pub apdu_after : {E : Type 0} (old : AuditState) (past : List (List ℕ)) (octets apdu : List ℕ) (result : Result Line E)
    → Knows old past
    → OnOk result (apdu ≡ opened_of old.rows (asked_in old.asked) (telegram_in octets))
    → OnOk result (apdu ≡ apdu_of old.rows past octets)
apdu_after old past octets apdu (Ok line) knows is = is ∙ (λ i. opened_of old.rows (knows.asked i) (telegram_in octets))
apdu_after old past octets apdu (Err fault) knows is = is
