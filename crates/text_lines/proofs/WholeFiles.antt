-- A file that is read to its end in pieces.
use Rattle.std.proofs.Common.{◌≡◌, ℕ, ◌≤◌, List, [], ◌++◌, length, drop, Option, Some, None, IsSome, Result, Ok, Err, subst, refl, sym, ap, ◌∙◌, append_assoc, length-drop, arith}
use Rattle.std.specs.Prelude.{IfOk, option_map}
use Rattle.std.specs.Option.{IsSomeAnd}
use Rattle.knx_base.specs.Files.{File, Seen, Holds, IsAtStart, octets_named}
use Rattle.text_lines.specs.Reading.{CurrentHas, WhereTold, ahead, GoesOn, ReadsRest, ReadsWhole}
use Rattle.text_lines.proofs.Readers.{has_same, goes_then, takes_less}

pub piece_goes : (start now next : Seen) (kept : List ℕ) → GoesOn start now [] [] 0 → GoesOn now next [] kept 0
    → GoesOn start next [] [] 0
piece_goes start now next kept first then_ =
    takes_less start next [] kept [] 0 0 (omega (arith)) (goes_then start now next [] [] kept 0 0 first then_)

pub piece_given : (start now next : Seen) (kept text all : List ℕ) → GoesOn start now [] [] 0
    → WhereTold start (λ octets. drop start.place octets ≡ text ++ drop now.place octets)
    → WhereTold now (λ octets. drop now.place octets ≡ ahead next kept octets) → all ≡ text ++ kept
    → WhereTold start (λ octets. drop start.place octets ≡ all ++ drop next.place octets)
piece_given start now next kept text all goes given piece all_is = λ octets has.
    given octets has ∙ ap (λ (rest : List ℕ). text ++ rest) (piece octets (has_same start now [] [] 0 goes octets has))
    ∙ sym (append_assoc text kept (drop next.place octets)) ∙ ap (λ (front : List ℕ). front ++ drop next.place octets)
    (sym all_is)

is_told : {A : Type 0} (P : A → Type 0) (o : Option A) → IsSomeAnd o P → IsSome o
is_told P None holds = absurd holds
is_told P (Some a) holds = refl

-- the file that was opened is the current one
opened_has : (old opened : Seen) (name octets : List ℕ) → opened.told ≡ old.told → IsAtStart old opened name
    → Holds old name octets → CurrentHas opened octets
opened_has old opened name octets same start holds =
    let told : IsSome old.told =
    is_told (λ (files : List File). octets_named files name ≡ Some octets) old.told holds in
    let later : Holds opened name octets = subst (λ (o : Option (List File)). IsSomeAnd o
    (λ files. octets_named files name ≡ Some octets)) (sym same) holds in
    subst (λ (o : Option (List ℕ)). IsSomeAnd o (λ n. Holds opened n octets)) (sym (start.named told)) later

whole_read : (old opened new : Seen) (name : List ℕ) (most : ℕ) (found : Option (List ℕ)) → opened.told ≡ old.told
    → IsAtStart old opened name → GoesOn opened new [] [] 0
    → WhereTold opened (λ octets. ReadsRest most (drop opened.place octets) (drop new.place octets) found)
    → (octets : List ℕ) → Holds old name octets → ReadsWhole most octets (new.places name) found
whole_read old opened new name most None same start goes rest octets holds =
    let more = rest octets (opened_has old opened name octets same start holds) in
    omega (arith, more, length-drop opened.place octets)
whole_read old opened new name most (Some text) same start goes rest octets holds =
    let has = opened_has old opened name octets same start holds in
    let told : IsSome old.told =
    is_told (λ (files : List File). octets_named files name ≡ Some octets) old.told holds in
    let told_later : IsSome opened.told = subst (λ (o : Option (List File)). IsSome o) (sym same) told in
    let all = rest octets has in
    let front : drop opened.place octets ≡ octets = ap (λ (n : ℕ). drop n octets) start.place in
    let within : new.place ≤ length octets = goes.within octets has (omega (arith, start.place)) in
    let at : new.places name ≡ new.place =
    goes.placed name (start.named told) told_later (start.start told ∙ sym start.place) in (
      all.0 ∙ front,
      omega (arith, all.1, ap length (all.0 ∙ front)),
      at
          ∙ (omega (arith, within, ap length all.2, length-drop new.place octets)),
    )

-- the same of an answer that may be a fault
pub whole_answer : {V E : Type 0} (items : V → List ℕ) (old opened new : Seen) (name : List ℕ) (most : ℕ)
    (r : Result (Option V) E) → opened.told ≡ old.told → IsAtStart old opened name
    → IfOk r (λ found. GoesOn opened new [] [] 0) → IfOk r (λ found. WhereTold opened
    (λ octets. ReadsRest most (drop opened.place octets) (drop new.place octets) (option_map items found)))
    → IfOk r (λ found. (octets : List ℕ) → Holds old name octets
    → ReadsWhole most octets (new.places name) (option_map items found))
whole_answer items old opened new name most (Ok found) same start goes rest =
    whole_read old opened new name most (option_map items found) same start goes rest
whole_answer items old opened new name most (Err fault) same start goes rest = tt
