-- The lines of a summary, one after another.
use Rattle.std.proofs.Common.{◌≡◌, ℕ, ◌+◌, ◌<◌, suc, List, [], ◌∷◌, ◌++◌, length, map, Option, refl, ap, subst, ◌∙◌, arith}
use Rattle.std.specs.Prelude.{Result}
use Rattle.std.specs.List.{zip, flat_map, enumerate_from}
use Rattle.knx_base.specs.Sink.{Prints}
use Rattle.script_text.specs.declared.node_row.NodeRow.{NodeRow}
use Rattle.step_text.specs.declared.outcome.Step.{Step}
use Rattle.install_run.specs.Place.{PlaceAt, place_in, node_of, HasJournals}
use Rattle.install_run.specs.Printing.{place_summary, summaries_of}
use Rattle.install_run.specs.Summary.{node_summary}
use Rattle.install_run.specs.Runs.{journal_of}

summaries_from : (history : List Step) (k : ℕ) (nodes : List NodeRow) (places : List PlaceAt)
    → ((i : ℕ) → i < length places → (place_in places i).journal ≡ journal_of (k + i) history)
    → flat_map place_summary (zip nodes places) ≡ flat_map (node_summary history)
    (enumerate_from k (zip nodes (map node_of places)))
summaries_from history k [] places journals = refl
summaries_from history k (row ∷ rows) [] journals = refl
summaries_from history k (row ∷ rows) (p ∷ places) journals =
    let first : p.journal ≡ journal_of k history =
    journals 0 (omega arith) ∙ ap (λ n. journal_of n history) (omega arith) in
    let rest : (i : ℕ) → i < length places → (place_in places i).journal ≡ journal_of ((k + 1) + i) history =
    λ i there. journals (suc i) (grind (arith, there)) ∙ ap (λ n. journal_of n history) (omega arith) in
    ap (λ journal. place_summary (row, record p { journal = journal }) ++ flat_map place_summary (zip rows places))
    first
    ∙ ap (λ text. node_summary history (k, (row, p.node)) ++ text) (summaries_from history (k + 1) rows places rest)

-- the nodes at their places are those of the history
pub summaries_printed : {T E : Type 0} (nodes : List NodeRow) (places : List PlaceAt) (history : List Step)
    (old new : Option (List ℕ)) (result : Result T E)
    → HasJournals places history → Prints old new result (summaries_of nodes places)
    → Prints old new result (flat_map (node_summary history) (enumerate_from 0 (zip nodes (map node_of places))))
summaries_printed nodes places history old new result journals printed =
    subst (λ text. Prints old new result text)
    (summaries_from history 0 nodes places
    (λ i there. journals.each i there ∙ ap (λ n. journal_of n history) (omega arith)))
    printed
