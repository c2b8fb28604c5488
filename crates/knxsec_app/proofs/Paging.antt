-- Parts of a report that go through the page one after another.
use Rattle.std.proofs.Common.{◌≡◌, ℕ, ◌+◌, ◌<◌, ◌≤◌, List, [], ◌∷◌, ◌++◌, length, drop, Option, Result, Ok, Err, inl, inr, sym, ap, subst, ◌∙◌, arith, append_assoc, append-nil}
use Rattle.std.specs.List.{flat_map, enumerate_from}
use Rattle.std.specs.Result.{IsErr}
use Rattle.std.specs.Io.KnownBytes.{append_known}
use Rattle.std.proofs.lemmas.Grind.{common_steps}
use Rattle.std.proofs.lemmas.List.{drop_more}
use Rattle.std.proofs.lemmas.List.FromFn.{get_or-enumerate_from, length-enumerate_from}
use Rattle.std.proofs.lemmas.Option.{get_or_from_slice_get, slice_get_cases}
use Rattle.knx_base.specs.Sink.{AppendsPrefix}
use Rattle.knx_base.proofs.Printing.{append_known-append, append_known-nil}
use Rattle.step_text.specs.Text.{step_text}
use Rattle.step_text.specs.declared.outcome.Step.{Step}
use Rattle.install_run.specs.Machine.{WorldAt}
use Rattle.install_run.specs.Report.{lanes_at, line_of_step, numbered_line, step_line}
use Rattle.install_run.specs.Runs.{place_of}
use Rattle.knxsec_app.specs.Page.{Passes}

-- of all these, those that are left were not passed on yet; these octets wait
pub record IsPassed {A : Type 0} (text : A → List ℕ) (all left : List A) (held : List ℕ)
    (start now : Option (List ℕ)) : Type 0 where
  pub handed : List ℕ
  pub out_is : now ≡ append_known start handed
  pub whole : (handed ++ held) ++ flat_map text left ≡ flat_map text all

pub none_passed : {A : Type 0} (text : A → List ℕ) (all : List A) (held : List ℕ) (start : Option (List ℕ)) → held ≡ []
    → IsPassed text all all held start start
none_passed text all held start empty = record {
  handed = [];
  out_is = sym (append_known-nil start);
  whole = ap (λ (h : List ℕ). h ++ flat_map text all) empty;
}

-- a line was passed on: these octets were handed on, and those wait
abbrev pub Handed : List ℕ → List ℕ → Option (List ℕ) → Option (List ℕ) → List ℕ → Type 0
Handed held kept old new line = (handed : List ℕ) × (new ≡ append_known old handed) × (handed ++ kept ≡ held ++ line)

pub one_more_passed : {A : Type 0} {text : A → List ℕ} {all left : List A} {held kept : List ℕ}
    {start mid now : Option (List ℕ)} (x : A) (rest : List A) (line : List ℕ)
    → IsPassed text all left held start mid → left ≡ x ∷ rest → line ≡ text x
    → Handed held kept mid now line → IsPassed text all rest kept start now
one_more_passed {text = text} {held = held} {kept = kept} {start = start} x rest line so_far is is_line passed =
    let handed = passed.0 in record {
      handed = so_far.handed ++ handed;
      out_is = passed.1 ∙ ap (λ known. append_known known handed) so_far.out_is
          ∙ append_known-append start so_far.handed handed;
      whole = ap (λ front. front ++ flat_map text rest)
          (append_assoc so_far.handed handed kept ∙ ap (λ back. so_far.handed ++ back) passed.2
          ∙ ap (λ l. so_far.handed ++ (held ++ l)) is_line ∙ sym (append_assoc so_far.handed held (text x)))
          ∙ append_assoc (so_far.handed ++ held) (text x) (flat_map text rest)
          ∙ ap (λ xs. (so_far.handed ++ held) ++ flat_map text xs) (sym is) ∙ so_far.whole;
    }

pub one_failed_passing : {A T E : Type 0} {text : A → List ℕ} {all left : List A} {held : List ℕ}
    {start mid : Option (List ℕ)} (later : List ℕ) (now : Option (List ℕ)) (said : Result T E) (x : A) (rest : List A)
    (line : List ℕ) → IsPassed text all left held start mid → left ≡ x ∷ rest → line ≡ text x → IsErr said
    → AppendsPrefix mid now (held ++ line) → Passes [] later start now said (flat_map text all)
one_failed_passing {text = text} {held = held} {start = start} later now (Err v) x rest line so_far is is_line told
    passed =
    let begun = passed.0 in (
      so_far.handed ++ begun,
      (
        passed.1.0 ++ flat_map text rest,
        append_assoc so_far.handed begun (passed.1.0 ++ flat_map text rest)
            ∙ ap (λ back. so_far.handed ++ back) (sym (append_assoc begun passed.1.0 (flat_map text rest)))
            ∙ ap (λ both. so_far.handed ++ (both ++ flat_map text rest)) passed.1.1
            ∙ ap (λ l. so_far.handed ++ ((held ++ l) ++ flat_map text rest)) is_line
            ∙ ap (λ back. so_far.handed ++ back) (append_assoc held (text x) (flat_map text rest))
            ∙ sym (append_assoc so_far.handed held (text x ++ flat_map text rest))
            ∙ ap (λ xs. (so_far.handed ++ held) ++ flat_map text xs) (sym is) ∙ so_far.whole,
      ),
      passed.2 ∙ ap (λ known. append_known known begun) so_far.out_is
          ∙ append_known-append start so_far.handed begun,
    )
one_failed_passing later now (Ok u) x rest line so_far is is_line told passed = absurd cc

pub all_passed : {A : Type 0} {text : A → List ℕ} {all left : List A} {held : List ℕ} {start now : Option (List ℕ)}
    → IsPassed text all left held start now → left ≡ [] → Handed [] held start now (flat_map text all)
all_passed {text = text} {held = held} so_far is = (
  so_far.handed,
  so_far.out_is,
  sym (append-nil (so_far.handed ++ held)) ∙ ap (λ xs. (so_far.handed ++ held) ++ flat_map text xs) (sym is)
      ∙ so_far.whole,
)

-- ---- the lines of steps

-- the next of the steps that are left, and its line
pub next_line : (w : WorldAt) (history : List Step) (i : ℕ) → i < length history
    → (x : Step)
    × (drop i (enumerate_from 1 history) ≡ (1 + i, x) ∷ drop (i + 1) (enumerate_from 1 history))
    × (line_of_step w history i ≡ numbered_line w (1 + i, x))
next_line w history i there = elim ((slice_get_cases history i).1) [
  | inl found ↦
      let x = found.0 in (
        x,
        drop_more (enumerate_from 1 history) i (0, x)
            (subst (λ n. i < n) (sym (length-enumerate_from 1 history)) there)
            ∙ ap (λ pair. pair ∷ drop (i + 1) (enumerate_from 1 history))
            (get_or-enumerate_from 1 history i (0, x) there
            ∙ ap (λ y. (1 + i, y)) (get_or_from_slice_get history i x x found.2)),
        ap (step_line (i + 1) w) found.2
            ∙ ap (λ n. step_text n (lanes_at w (place_of x.event)) x.outcome) (omega arith),
      )
  | inr past ↦ absurd (omega (arith, past.0, there))
]

pub no_line_left : (history : List Step) (i : ℕ) → length history ≤ i → drop i (enumerate_from 1 history) ≡ []
no_line_left history i past = grind (arith, common_steps, length-enumerate_from 1 history, past)
