-- The pieces of a text between separators.
use Rattle.std.proofs.Common.{◌≡◌, ◌≢◌, ℕ, suc, ◌^◌, ◌<◌, Bool, true, false, cond, eqb, List, [], ◌∷◌, ◌++◌, length, get_or, Option, Some, None, refl, ap, ◌∙◌, arith}
use Rattle.std.specs.Prelude.{MatchOption}
use Rattle.std.specs.Borrow.{Bor}
use Rattle.std.specs.Fmt.{decimal}
use Rattle.std.proofs.lemmas.Bool.{eq-eqb, ne_eqb, eqb-true}
use Rattle.std.proofs.lemmas.Fmt.{digits_decimal}
use Rattle.std.proofs.lemmas.Str.Parse.{not_in_digits}
use Rattle.knx_base.specs.Decimal.{decimal_up_to}
use Rattle.knx_base.specs.Address.{onto_first, pieces_of}
use Rattle.knx_base.proofs.DecimalLemmas.{own, decimal_up_to-none}

abbrev pub Lacks : ℕ → List ℕ → Type 0
Lacks separator text = (i : ℕ) → i < length text → get_or text i 0 ≢ separator

Lacks-rest : (separator octet : ℕ) (text : List ℕ) → Lacks separator (octet ∷ text) → Lacks separator text
Lacks-rest separator octet text lacks i within = lacks (suc i) (omega arith)

pub pieces_of-lacking : (separator : ℕ) (text : List ℕ) → Lacks separator text → pieces_of separator text ≡ text ∷ []
pieces_of-lacking separator [] lacks = refl
pieces_of-lacking separator (octet ∷ text) lacks = rw (
  ne_eqb octet separator (lacks 0 (omega arith)),
  pieces_of-lacking
      separator text (Lacks-rest separator octet text lacks),
) refl

pub pieces_of-append : (separator : ℕ) (front back : List ℕ) → Lacks separator front
    → pieces_of separator (front ++ separator ∷ back) ≡ front ∷ pieces_of separator back
pieces_of-append separator [] back lacks = rw (eq-eqb separator separator refl) refl
pieces_of-append separator (octet ∷ front) back lacks = rw (
  ne_eqb octet separator (lacks 0 (omega arith)),
  pieces_of-append separator front back (Lacks-rest separator octet front lacks),
) refl

-- the pieces with the separator between them
abbrev pub joined : ℕ → List (List ℕ) → List ℕ
joined separator [] = []
joined separator (piece ∷ []) = piece
joined separator (piece ∷ next ∷ pieces) = piece ++ separator ∷ joined separator (next ∷ pieces)

joined-onto_first : (separator octet : ℕ) (pieces : List (List ℕ)) → joined separator (onto_first octet pieces) ≡ octet
    ∷ joined separator pieces
joined-onto_first separator octet [] = refl
joined-onto_first separator octet (piece ∷ []) = refl
joined-onto_first separator octet (piece ∷ next ∷ pieces) = refl

joined-empty : (separator : ℕ) (pieces : List (List ℕ)) → pieces ≢ [] → joined separator ([] ∷ pieces) ≡ separator
    ∷ joined separator pieces
joined-empty separator [] some = absurd (some refl)
joined-empty separator (piece ∷ pieces) some = refl

pub some_piece : (separator : ℕ) (text : List ℕ) → pieces_of separator text ≢ []
some_piece separator [] none = absurd cc
some_piece separator (octet ∷ text) none = by (eqb octet separator) (pieces_of separator text) none
  where
    by : (b : Bool) (pieces : List (List ℕ)) → cond b ([] ∷ pieces) (onto_first octet pieces) ≢ []
    by true pieces e = absurd cc
    by false [] e = absurd cc
    by false (piece ∷ pieces) e = absurd cc

pub joined-pieces_of : (separator : ℕ) (text : List ℕ) → joined separator (pieces_of separator text) ≡ text
joined-pieces_of separator [] = refl
joined-pieces_of separator (octet ∷ text) = by (eqb octet separator) refl (joined-pieces_of separator text)
  where
    by : (b : Bool) → eqb octet separator ≡ b → joined separator (pieces_of separator text) ≡ text
        → joined separator (cond b ([] ∷ pieces_of separator text) (onto_first octet (pieces_of separator text)))
        ≡ octet ∷ text
    by true same rest = joined-empty separator (pieces_of separator text) (some_piece separator text)
        ∙ rw (rest, eqb-true octet separator same) refl
    by false other rest = joined-onto_first separator octet (pieces_of separator text) ∙ rw rest refl

pub decimal_lacks : (separator n : ℕ) → separator < 48 → n < 2 ^ 64 → Lacks separator (decimal n)
decimal_lacks separator n low small =
    not_in_digits own (decimal n) separator (digits_decimal own n small) (λ digit. omega arith)

-- A text of several pieces is no decimal.
pub decimal_up_to-pieces : (separator most : ℕ) (text piece next : List ℕ) (pieces : List (List ℕ)) → separator < 48
    → most < 2 ^ 64 → pieces_of separator text ≡ piece ∷ next ∷ pieces → decimal_up_to most text ≡ None
decimal_up_to-pieces separator most text piece next pieces low wide several =
    decimal_up_to-none most text (λ n within is.
    let one : pieces_of separator text ≡ decimal n ∷ [] = ap (pieces_of separator) is
    ∙ pieces_of-lacking separator (decimal n) (decimal_lacks separator n low (omega arith)) in
    absurd cc)

-- What the cut of a text at its first separator says of its pieces.
pub pieces_of-cut : (separator : ℕ) (text : List ℕ) (cut : Option (Bor (List ℕ) × Bor (List ℕ)))
    → MatchOption cut (Lacks separator text) (λ parts. (text ≡ parts.0.now ++ separator ∷ parts.1.now)
    × Lacks separator parts.0.now)
    → MatchOption cut (pieces_of separator text ≡ text ∷ [])
    (λ parts. pieces_of separator text ≡ parts.0.now ∷ pieces_of separator parts.1.now)
pieces_of-cut separator text None lacks = pieces_of-lacking separator text lacks
pieces_of-cut separator text (Some parts) found =
    ap (pieces_of separator) found.0 ∙ pieces_of-append separator parts.0.now parts.1.now found.1
