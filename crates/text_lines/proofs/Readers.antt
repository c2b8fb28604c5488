-- Reading on composes, and what is told of the current file stays told.
use Rattle.std.proofs.Common.{◌≡◌, ℕ, ◌+◌, ◌-◌, ◌≤◌, List, [], ◌∷◌, ◌++◌, length, take, drop, Option, Some, None, IsSome, subst, refl, sym, ap, ◌∙◌, append-nil, length-take, arith}
use Rattle.std.specs.Option.{IsSomeAnd}
use Rattle.std.proofs.lemmas.List.{drop-drop, drop-take}
use Rattle.knx_base.specs.Files.{File, Seen, Holds, octets_named}
use Rattle.text_lines.specs.Reading.{CurrentHas, WhereTold, ahead, GoesOn, OthersStay, TakesOctet, count_of}

-- what is told of the current file at one moment is told later
pub has_same : (old new : Seen) (held kept : List ℕ) (n : ℕ) → GoesOn old new held kept n → (octets : List ℕ)
    → CurrentHas old octets → CurrentHas new octets
has_same old new held kept n goes octets has =
    let by_current : IsSomeAnd new.current (λ name. Holds old name octets) =
    subst (λ (o : Option (List ℕ)). IsSomeAnd o (λ name. Holds old name octets)) (sym goes.current) has in
    subst (λ (told : Option (List File)). IsSomeAnd new.current
    (λ name. IsSomeAnd told (λ files. octets_named files name ≡ Some octets))) (sym goes.told) by_current

-- nothing was taken
pub stays : (seen : Seen) (held : List ℕ) → GoesOn seen seen held held 0
stays seen held = record {
  told = refl;
  current = refl;
  forward = omega arith;
  last = λ within. within;
  taken = omega arith;
  less = omega arith;
  placed = λ name is told at. at;
  others = record { opened = refl; places = λ other not_current. refl };
  within = λ octets has within. within;
  no_fault = refl;
}

-- what was held may count as taken, or as not
pub takes_less : (old new : Seen) (held kept left : List ℕ) (n m : ℕ) → length left + m ≤ length kept + n
    → GoesOn old new held kept n → GoesOn old new held left m
takes_less old new held kept left n m no_more goes = record {
  told = goes.told;
  current = goes.current;
  forward = goes.forward;
  last = goes.last;
  taken = omega (arith, goes.taken, no_more);
  less = omega (arith, goes.less, no_more);
  placed = goes.placed;
  others = goes.others;
  within = goes.within;
  no_fault = goes.no_fault;
}

-- the other places stay first and then
pub others_then : (old mid new : Seen) → mid.current ≡ old.current → OthersStay old mid → OthersStay mid new
    → OthersStay old new
others_then old mid new same first then_ = record {
  opened = then_.opened ∙ first.opened;
  places = λ other not_current. then_.places other (λ is. not_current (sym same ∙ is)) ∙ first.places other not_current;
}

-- what was taken first and then
pub goes_then : (old mid new : Seen) (held between kept : List ℕ) (n m : ℕ) → GoesOn old mid held between n
    → GoesOn mid new between kept m → GoesOn old new held kept (n + m)
goes_then old mid new held between kept n m first then_ = record {
  told = then_.told ∙ first.told;
  current = then_.current ∙ first.current;
  forward = omega (arith, first.forward, then_.forward);
  last = λ within. then_.last (first.last within);
  taken = omega (arith, first.taken, then_.taken);
  less = omega (arith, first.less, then_.less);
  placed = λ name is told at. then_.placed name (first.current ∙ is)
      (subst (λ (o : Option (List File)). IsSome o) (sym first.told) told) (first.placed name is told at);
  others = others_then old mid new first.current first.others then_.others;
  within = λ octets has within. then_.within octets (has_same old mid held between n first octets has)
      (first.within octets has within);
  no_fault = then_.no_fault ∙ first.no_fault;
}

-- one more octet was taken
pub octet_taken : (start now next : Seen) (held between kept line : List ℕ) (n octet : ℕ) (taken : Option ℕ)
    → taken ≡ Some octet → GoesOn start now held between n
    → WhereTold start (λ octets. ahead start held octets ≡ line ++ ahead now between octets)
    → TakesOctet now next between kept taken
    → WhereTold start (λ octets. ahead start held octets ≡ line ++ octet ∷ ahead next kept octets)
octet_taken start now next held between kept line n octet None is goes given takes = absurd cc
octet_taken start now next held between kept line n octet (Some b) is goes given takes = λ octets has.
    let same : b ≡ octet = cc in
    given octets has ∙ ap (λ (rest : List ℕ). line ++ rest) (takes octets
    (has_same start now held between n goes octets has) ∙ ap (λ (x : ℕ). x ∷ ahead next kept octets) same)

-- the end was found
pub none_taken : (start now next : Seen) (held between kept line : List ℕ) (n : ℕ) (taken : Option ℕ) → taken ≡ None
    → GoesOn start now held between n
    → WhereTold start (λ octets. ahead start held octets ≡ line ++ ahead now between octets)
    → TakesOctet now next between kept taken
    → (kept ≡ []) × WhereTold start (λ octets. (ahead start held octets ≡ line) × (drop next.place octets ≡ []))
none_taken start now next held between kept line n (Some b) is goes given takes = absurd cc
none_taken start now next held between kept line n None is goes given takes = (
  takes.0,
  λ octets has.
      let end = takes.1 octets (has_same start now held between n goes octets has) in
      (given octets has ∙ ap (λ (rest : List ℕ). line ++ rest) end.0 ∙ append-nil line, end.1),
)

-- reading on by one octet, in a loop that counts them
pub goes_octet : (old mid new : Seen) (held between kept : List ℕ) (n all octet : ℕ) (taken : Option ℕ)
    → taken ≡ Some octet → all ≡ n + 1 → GoesOn old mid held between n → GoesOn mid new between kept (count_of taken)
    → GoesOn old new held kept all
goes_octet old mid new held between kept n all octet None is all_is first then_ = absurd cc
goes_octet old mid new held between kept n all octet (Some b) is all_is first then_ =
    subst (GoesOn old new held kept) (sym all_is) (goes_then old mid new held between kept n 1 first then_)

-- what is ahead, from one moment to the next
pub given_then : (start now next : Seen) (held between kept line : List ℕ) (n : ℕ) → GoesOn start now held between n
    → WhereTold start (λ octets. ahead start held octets ≡ line ++ ahead now between octets)
    → WhereTold now (λ octets. ahead now between octets ≡ ahead next kept octets)
    → WhereTold start (λ octets. ahead start held octets ≡ line ++ ahead next kept octets)
given_then start now next held between kept line n goes given more = λ octets has.
    given octets has ∙ ap (λ (rest : List ℕ). line ++ rest) (more octets
    (has_same start now held between n goes octets has))

-- the end was found, where nothing is held
pub none_ahead : (start now next : Seen) (held between kept line : List ℕ) (n : ℕ) → kept ≡ []
    → GoesOn start now held between n
    → WhereTold start (λ octets. ahead start held octets ≡ line ++ ahead next kept octets)
    → WhereTold now (λ octets. drop next.place octets ≡ [])
    → (kept ≡ []) × WhereTold start (λ octets. (ahead start held octets ≡ line) × (drop next.place octets ≡ []))
none_ahead start now next held between kept line n empty goes given ended = (
  empty,
  λ octets has.
      let end = ended octets (has_same start now held between n goes octets has) in
      let nothing : ahead next kept octets ≡ [] =
      ap (λ (front : List ℕ). front ++ drop next.place octets) empty ∙ end in
      (given octets has ∙ ap (λ (rest : List ℕ). line ++ rest) nothing ∙ append-nil line, end),
)

-- what is held of a store, without its front
pub front_taken : (store : List ℕ) (from to count : ℕ) → from ≤ to
    → count ≤ length (take (to - from) (drop from store))
    → take (to - (from + count)) (drop (from + count) store) ≡ drop count (take (to - from) (drop from store))
front_taken store from to count ordered within =
    let all : count + (to - (from + count)) ≡ to - from =
    omega (arith, ordered, within, length-take (to - from) (drop from store)) in
    ap (take (to - (from + count))) (sym (drop-drop count from store))
    ∙ sym (drop-take count (to - (from + count)) (drop from store))
    ∙ ap (λ (n : ℕ). drop count (take n (drop from store))) all
