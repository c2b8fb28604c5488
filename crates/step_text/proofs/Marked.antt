-- The lanes of a node, each with its mark.
use Rattle.std.proofs.Common.{◌≡◌, ℕ, ◌+◌, ◌<◌, ◌≤◌, List, [], ◌∷◌, length, drop, sym, ap, subst, ◌∙◌, arith, slice_index_or}
use Rattle.std.specs.Prelude.{min}
use Rattle.std.specs.List.{zip}
use Rattle.std.proofs.lemmas.List.{drop_more}
use Rattle.std.proofs.lemmas.Grind.{common_steps}
use Rattle.std.proofs.lemmas.Slice.Zip.{get_or-zip, length-zip}
use Rattle.key_tables.specs.declared.types.Lane.{Lane}
use Rattle.key_tables.specs.declared.types.Lane.TheVariants as lane

abbrev pub no_lane : Lane
no_lane = lane.Run (record { 0 = 0 })

-- the next lane of those that are left, with its mark
pub next_mark : (lanes : List Lane) (marks : List ℕ) (i mark : ℕ) → i < length lanes → i < length marks
    → mark ≡ slice_index_or marks i mark
    → drop i (zip lanes marks) ≡ (slice_index_or lanes i no_lane, mark) ∷ drop (i + 1) (zip lanes marks)
next_mark lanes marks i mark lane_there mark_there is =
    let there : i < length (zip lanes marks) =
    subst (λ n. i < n) (sym (length-zip lanes marks)) (grind (arith, lane_there, mark_there)) in
    drop_more (zip lanes marks) i (no_lane, mark) there
    ∙ ap (λ pair. pair ∷ drop (i + 1) (zip lanes marks))
    (get_or-zip lanes marks i (no_lane, mark) lane_there mark_there
    ∙ ap (λ n. (slice_index_or lanes i no_lane, n)) (sym is))

-- none is left
pub no_mark_left : (lanes : List Lane) (marks : List ℕ) (i : ℕ) → min (length lanes) (length marks) ≤ i
    → drop i (zip lanes marks) ≡ []
no_mark_left lanes marks i none = grind (arith, common_steps, length-zip lanes marks, none)
