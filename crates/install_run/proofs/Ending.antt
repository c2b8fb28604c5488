-- The lines of the end of a report, one after another.
use Rattle.std.proofs.Common.{◌≡◌, ℕ, ◌+◌, ◌<◌, ◌≤◌, zero, suc, List, [], ◌∷◌, ◌++◌, length, take, drop, map, Option, Some, None, refl, sym, ap, subst, ◌∙◌, arith, slice_index_or}
use Rattle.std.specs.Prelude.{slice_get, unwrap_or, min}
use Rattle.std.specs.List.{zip, flat_map, enumerate_from}
use Rattle.std.proofs.lemmas.Grind.{common_steps}
use Rattle.std.proofs.lemmas.List.{drop_more}
use Rattle.std.proofs.lemmas.List.FromFn.{get_or-enumerate_from, length-enumerate_from}
use Rattle.std.proofs.lemmas.Option.{get_or_from_slice_get, slice_get_within}
use Rattle.std.proofs.lemmas.Slice.Zip.{get_or-zip, length-zip}
use Rattle.key_tables.specs.declared.types.Lane.{Lane}
use Rattle.script_text.specs.declared.node_row.NodeRow.{NodeRow}
use Rattle.step_text.proofs.Marked.{no_lane, next_mark, no_mark_left}
use Rattle.std.specs.Prelude.{Result}
use Rattle.std.specs.Io.KnownBytes.{append_known}
use Rattle.knx_base.specs.Sink.{Prints}
use Rattle.step_text.specs.declared.outcome.Step.{Step}
use Rattle.step_text.proofs.Pieces.{nothing}
use Rattle.install_run.specs.Place.{PlaceAt, place_in, node_of, HasJournals}
use Rattle.install_run.specs.Printing.{place_end, ends_of}
use Rattle.install_run.specs.Report.{node_end}
use Rattle.install_run.specs.Runs.{journal_of}
use Rattle.seq_store.specs.Layout.{value_of}
use Rattle.seq_store.specs.Runs.{marks_from}

-- the next value of those that are left, with its place
pub next_value : {X : Type 0} (most : ℕ) (values : List X) (i : ℕ) (x : X) → i < most → slice_get values i ≡ Some x
    → drop i (enumerate_from 0 (take most values)) ≡ (i, x) ∷ drop (i + 1) (enumerate_from 0 (take most values))
next_value most values i x below is =
    let first = take most values in
    let is_first : slice_get first i ≡ Some x = taken most values i below ∙ is in
    let there : i < length first = slice_get_within first i x is_first in
    drop_more (enumerate_from 0 first) i (0, x) (subst (λ n. i < n) (sym (length-enumerate_from 0 first)) there)
    ∙ ap (λ pair. pair ∷ drop (i + 1) (enumerate_from 0 first))
    (get_or-enumerate_from 0 first i (0, x) there ∙ ap (λ y. (0 + i, y)) (get_or_from_slice_get first i x x is_first)
    ∙ ap (λ k. (k, x)) (omega arith))
  where
    taken : {X : Type 0} (n : ℕ) (xs : List X) (i : ℕ) → i < n → slice_get (take n xs) i ≡ slice_get xs i
    taken zero xs i below = absurd (grind (arith, below))
    taken (suc n) [] i below = refl
    taken (suc n) (x ∷ xs) zero below = refl
    taken (suc n) (x ∷ xs) (suc i) below = taken n xs i (grind (arith, below))

past : {X : Type 0} (values : List X) (i : ℕ) → slice_get values i ≡ None → length values ≤ i
past [] i is = omega arith
past (x ∷ values) zero is = absurd cc
past (x ∷ values) (suc i) is = grind (arith, past values i is)

none_from : {X : Type 0} (values : List X) (i : ℕ) → length values ≤ i → drop i (enumerate_from 0 values) ≡ []
none_from values i past = grind (arith, common_steps, length-enumerate_from 0 values, past)

pub no_value_left : {X : Type 0} (most : ℕ) (values : List X) (i : ℕ) → slice_get values i ≡ None
    → drop i (enumerate_from 0 (take most values)) ≡ []
no_value_left most values i is = none_from (take most values) i (grind (arith, common_steps, past values i is))

pub all_values : {X : Type 0} (most : ℕ) (values : List X) (i : ℕ) → most ≤ i
    → drop i (enumerate_from 0 (take most values)) ≡ []
all_values most values i end = none_from (take most values) i (grind (arith, common_steps, end))

-- the mark of a lane is what the image restores of it
marks_at : (lanes : ℕ) (image : List ℕ) (first n i d : ℕ) → i < n
    → slice_index_or (marks_from lanes image first n) i d ≡ unwrap_or (value_of lanes image (1 + (first + i))) 0
marks_at lanes image first zero i d below = absurd (grind (arith, below))
marks_at lanes image first (suc n) zero d below = ap (λ v. unwrap_or (value_of lanes image (1 + v)) 0) (omega arith)
marks_at lanes image first (suc n) (suc i) d below =
    marks_at lanes image (first + 1) n i d (grind (arith, below))
    ∙ ap (λ v. unwrap_or (value_of lanes image (1 + v)) 0) (omega arith)

pub mark_stored : (lanes : ℕ) (image : List ℕ) (i stored : ℕ) → i < lanes
    → stored ≡ unwrap_or (value_of lanes image (1 + i)) 0
    → stored ≡ slice_index_or (marks_from lanes image 0 lanes) i stored
mark_stored lanes image i stored below is = is ∙ sym (marks_at lanes image 0 lanes i stored below
    ∙ ap (λ v. unwrap_or (value_of lanes image (1 + v)) 0) (omega arith))

pub length-marks_from : (lanes : ℕ) (image : List ℕ) (first n : ℕ) → length (marks_from lanes image first n) ≡ n
length-marks_from lanes image first zero = refl
length-marks_from lanes image first (suc n) = ap suc (length-marks_from lanes image (first + 1) n)

-- the next lane of those that are left, with what the memory restores of it
pub next_kept : (lanes shown : List Lane) (image : List ℕ) (i stored : ℕ) → shown ≡ lanes → i < length shown
    → stored ≡ unwrap_or (value_of (length lanes) image (1 + i)) 0
    → drop i (zip lanes (marks_from (length lanes) image 0 (length lanes)))
    ≡ (slice_index_or shown i no_lane, stored) ∷ drop (i + 1)
    (zip lanes (marks_from (length lanes) image 0 (length lanes)))
next_kept lanes shown image i stored same there is =
    let marks = marks_from (length lanes) image 0 (length lanes) in
    let in_range : i < length lanes = subst (λ ls. i < length ls) same there in
    subst (λ ls. drop i (zip lanes marks) ≡ (slice_index_or ls i no_lane, stored) ∷ drop (i + 1) (zip lanes marks))
    (sym same)
    (next_mark lanes marks i stored in_range (subst (λ n. i < n)
    (sym (length-marks_from (length lanes) image 0 (length lanes))) in_range)
    (mark_stored (length lanes) image i stored in_range is))

pub none_kept_left : (lanes shown : List Lane) (marks : List ℕ) (i : ℕ) → shown ≡ lanes → length shown ≤ i
    → drop i (zip lanes marks) ≡ []
none_kept_left lanes shown marks i same end =
    no_mark_left lanes marks i (grind (arith, subst (λ ls. length ls ≤ i) same end))

-- the next node of those that are left, at its place
pub next_place : (nodes : List NodeRow) (places : List PlaceAt) (i : ℕ) (row : NodeRow) (place : PlaceAt)
    → i < length nodes → i < length places
    → row ≡ slice_index_or nodes i row → place ≡ slice_index_or places i place
    → drop i (zip nodes places) ≡ (row, place) ∷ drop (i + 1) (zip nodes places)
next_place nodes places i row place row_there place_there row_is place_is =
    drop_more (zip nodes places) i (row, place) (subst (λ n. i < n) (sym (length-zip nodes places))
    (grind (arith, row_there, place_there)))
    ∙ ap (λ pair. pair ∷ drop (i + 1) (zip nodes places))
    (get_or-zip nodes places i (row, place) row_there place_there
    ∙ ap (λ p. (slice_index_or nodes i row, p)) (sym place_is) ∙ ap (λ r. (r, place)) (sym row_is))

pub no_place_left : (nodes : List NodeRow) (places : List PlaceAt) (i : ℕ) → min (length nodes) (length places) ≤ i
    → drop i (zip nodes places) ≡ []
no_place_left nodes places i none = grind (arith, common_steps, length-zip nodes places, none)

-- ---- all nodes

ends_from : (history : List Step) (k : ℕ) (nodes : List NodeRow) (places : List PlaceAt)
    → ((i : ℕ) → i < length places → (place_in places i).journal ≡ journal_of (k + i) history)
    → flat_map place_end (zip nodes places) ≡ flat_map (node_end history)
    (enumerate_from k (zip nodes (map node_of places)))
ends_from history k [] places journals = refl
ends_from history k (row ∷ rows) [] journals = refl
ends_from history k (row ∷ rows) (p ∷ places) journals =
    let first : p.journal ≡ journal_of k history =
    journals 0 (omega arith) ∙ ap (λ n. journal_of n history) (omega arith) in
    let rest : (i : ℕ) → i < length places → (place_in places i).journal ≡ journal_of ((k + 1) + i) history =
    λ i there. journals (suc i) (grind (arith, there)) ∙ ap (λ n. journal_of n history) (omega arith) in
    ap (λ journal. place_end (row, record p { journal = journal }) ++ flat_map place_end (zip rows places)) first
    ∙ ap (λ text. node_end history (k, (row, p.node)) ++ text) (ends_from history (k + 1) rows places rest)

-- the nodes at their places are those of the history
pub nodes_printed : {T E : Type 0} (nodes : List NodeRow) (places : List PlaceAt) (history : List Step)
    (old new : Option (List ℕ)) (result : Result T E)
    → HasJournals places history → Prints old new result (ends_of nodes places)
    → Prints old new result (flat_map (node_end history) (enumerate_from 0 (zip nodes (map node_of places))))
nodes_printed nodes places history old new result journals printed =
    subst (λ text. Prints old new result text)
    (ends_from history 0 nodes places (λ i there. journals.each i there ∙ ap (λ n. journal_of n history) (omega arith)))
    printed

-- nothing was printed
pub nothing_printed : (known : Option (List ℕ)) → known ≡ append_known known []
nothing_printed = nothing
