-- Texts that are printed in pieces, and names of services.
use Rattle.std.proofs.Common.{◌≡◌, ◌≤◌, ℕ, List, [], ◌∷◌, ◌++◌, length, Option, Result, refl, sym, ap, subst, ◌∙◌, append_assoc, append-nil}
use Rattle.std.specs.List.{flat_map}
use Rattle.std.specs.Result.{IsErr}
use Rattle.std.specs.Io.KnownBytes.{append_known}
use Rattle.knx_base.specs.Sink.{AppendsPrefix, Prints}
use Rattle.knx_base.proofs.Printing as base
use Rattle.plain_apdu.specs.Service.{name_of}
use Rattle.plain_apdu.specs.declared.service.Service.{Service}
use Rattle.judge_rules.proofs.Names as names

-- a text was printed whole and another after it
pub then : {T E : Type 0} (old mid new : Option (List ℕ)) (result : Result T E) (front back : List ℕ)
    → mid ≡ append_known old front → Prints mid new result back → Prints old new result (front ++ back)
then = base.prints_then

-- a text was printed in part, and what was to come after it not at all
pub no_more : {T E : Type 0} (old new : Option (List ℕ)) (result : Result T E) (front back : List ℕ)
    → IsErr result → AppendsPrefix old new front → Prints old new result (front ++ back)
no_more = base.prints_no_more

-- nothing was printed
pub nothing : (known : Option (List ℕ)) → known ≡ append_known known []
nothing known = sym (base.append_known-nil known)

pub short_name : (service : Service) → length (name_of service) ≤ 30
short_name = names.length-name_of

-- a text was printed whole and another after it, which are a third
pub both_of : {T E : Type 0} (old mid new : Option (List ℕ)) (result : Result T E) (front back : List ℕ) {text : List ℕ}
    → front ++ back ≡ text
    → mid ≡ append_known old front → Prints mid new result back → Prints old new result text
both_of old mid new result front back whole first printed =
    subst (λ text. Prints old new result text) whole (then old mid new result front back first printed)

-- ---- lists that are printed one by one

-- of all these, those that are left are not printed yet
pub record IsPrinted {A : Type 0} (text : A → List ℕ) (all left : List A) (start now : Option (List ℕ)) : Type 0 where
  pub front : List ℕ
  pub printed : now ≡ append_known start front
  pub whole : front ++ flat_map text left ≡ flat_map text all

pub none_yet : {A : Type 0} (text : A → List ℕ) (all : List A) (start : Option (List ℕ))
    → IsPrinted text all all start start
none_yet text all start = record { front = []; printed = nothing start; whole = refl }

pub one_more : {A : Type 0} {text : A → List ℕ} {all left : List A} {start mid now : Option (List ℕ)} (x : A)
    (rest : List A)
    → IsPrinted text all left start mid → left ≡ x ∷ rest → now ≡ append_known mid (text x)
    → IsPrinted text all rest start now
one_more {text = text} {all = all} {start = start} x rest so_far is printed = record {
  front = so_far.front ++ text x;
  printed = printed ∙ ap (λ known. append_known known (text x)) so_far.printed
      ∙ base.append_known-append start so_far.front (text x);
  whole = append_assoc so_far.front (text x) (flat_map text rest) ∙ ap (λ xs. so_far.front ++ flat_map text xs) (sym is)
      ∙ so_far.whole;
}

pub one_failed : {A T E : Type 0} {text : A → List ℕ} {all left : List A} {start mid : Option (List ℕ)}
    (now : Option (List ℕ)) (result : Result T E) (x : A) (rest : List A)
    → IsPrinted text all left start mid → left ≡ x ∷ rest → IsErr result → AppendsPrefix mid now (text x)
    → Prints start now result (flat_map text all)
one_failed {text = text} {start = start} {mid = mid} now result x rest so_far is failed begun =
    both_of start mid now result so_far.front (text x ++ flat_map text rest)
    (ap (λ xs. so_far.front ++ flat_map text xs) (sym is) ∙ so_far.whole) so_far.printed
    (no_more mid now result (text x) (flat_map text rest) failed begun)

pub all_printed : {A : Type 0} {text : A → List ℕ} {all left : List A} {start now : Option (List ℕ)}
    → IsPrinted text all left start now → left ≡ [] → now ≡ append_known start (flat_map text all)
all_printed {text = text} {start = start} so_far is =
    so_far.printed ∙ ap (append_known start)
    (sym (append-nil so_far.front) ∙ ap (λ xs. so_far.front ++ flat_map text xs) (sym is) ∙ so_far.whole)
