-- Lanes that are known are known after a line that moves none.
use Rattle.std.proofs.Common.{◌≡◌, ℕ, ◌<◌, false, List, [], length, Some, None, Ok, Err, ap, refl, ◌∙◌, arith}
use Rattle.std.specs.Prelude.{Result, OnOk}
use Rattle.key_tables.specs.declared.types.Lane.{Lane}
use Rattle.script_text.specs.Said.{Before, standing}
use Rattle.script_text.specs.Reading.{◌>>=◌, stands}
use Rattle.script_text.specs.declared.fault.Refusal.{Refusal}
use Rattle.script_text.specs.Lists.{IsKnown, TakesSaid, added, moves_lanes}
use Rattle.script_text.specs.declared.said.Said.{Said}
use Rattle.script_text.specs.declared.said.Said.TheVariants as said

pub still_known : (before : Before) (line : Said) (lanes : List (List Lane)) → moves_lanes line ≡ false
    → IsKnown before lanes → IsKnown (added before line) lanes
still_known before said.Head lanes stays known = λ some. record { are = (known some).are; few = (known some).few }
still_known before (said.Row row) lanes stays known = absurd cc
still_known before (said.Node node) lanes stays known = absurd cc
still_known before (said.Object object) lanes stays known = absurd cc
still_known before (said.Mark mark) lanes stays known =
    λ some. record { are = (known some).are; few = (known some).few }
still_known before (said.Event event) lanes stays known =
    λ some. record { are = (known some).are; few = (known some).few }

pub none_known : (before : Before) → IsKnown before []
none_known before = λ some. absurd (omega (arith, some))

-- what was read stands, and was added
pub takes_said : (old new : Before) (read : Result Said Refusal) (line : Said) (answer : Result (Unit {0}) Refusal)
    → read ≡ Ok line → OnOk answer ((new ≡ added old line) × (standing old line ≡ None))
    → OnOk answer (TakesSaid old (read >>= λ line. stands (standing old line) line) new)
takes_said old new read line (Err why) is done = tt
takes_said old new read line (Ok tt) is done =
    let stays : (read >>= λ line. stands (standing old line) line) ≡ Ok (Some line) =
    ap (λ (read : Result Said Refusal). read >>= λ line. stands (standing old line) line) is
    ∙ ap (λ why. stands why line) done.1 in
    (Some line, stays, done.0)
