-- A telegram that passes up to its sender's check is entitled.
use Rattle.std.proofs.Common.{◌≡◌, ℕ, ◌&&◌, Bool, true, false, List, Option, Some, None, refl, sym, ap, ◌∙◌}
use Rattle.std.specs.Prelude.{if◌then◌else◌}
use Rattle.std.specs.Option.{option_map, is_some}
use Rattle.std.proofs.lemmas.Option.{none-some}
use Rattle.cemi_frames.specs.Frames.{Telegram}
use Rattle.key_tables.specs.declared.types.Channel.{Channel}
use Rattle.key_tables.specs.declared.types.Row.{Row}
use Rattle.key_tables.specs.Rows.{key_of, role_of, receiver_may, lane_of}
use Rattle.judge_rules.specs.Parts.{source_of, channel_in}
use Rattle.judge_rules.specs.Checks.{entry_checks, check_sender, lane_in, first_failing, IsEntitled}
use Rattle.judge_rules.proofs.Keeping.{lanes_pass}

pub both_where : {A : Type 0} (a b : Bool) (x : A) → (if a && b then None else Some x) ≡ None → (a ≡ true) × (b ≡ true)
both_where true true x said = (refl, refl)
both_where true false x said = elim (none-some x (sym said)) [ ]
both_where false b x said = elim (none-some x (sym said)) [ ]

pub entitled : (rows : List Row) (asked : Option (List ℕ)) (t : Telegram) (c : Channel) (key : List ℕ)
    → first_failing (entry_checks rows asked t) ≡ None → channel_in rows t ≡ Some c → key_of rows c ≡ Some key
    → check_sender rows c t ≡ None
    → IsEntitled rows t
unfolding lane_in
entitled rows asked t c key passed is_channel is_key may =
    let both = both_where (is_some (role_of rows c (source_of t))) (receiver_may rows t.destination c) _ may in
    record {
      channel = c;
      channel_is = is_channel;
      keyed = ap is_some is_key;
      may_send = both.0;
      may_receive = both.1;
      lane_is = ap (λ b. if b then None else option_map (λ c. lane_of c (source_of t)) (channel_in rows t))
          (lanes_pass rows asked t _ refl (ap is_some passed))
          ∙ ap (option_map (λ c. lane_of c (source_of t))) is_channel;
    }
