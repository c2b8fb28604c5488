-- From the files that calls opened to those that a command opened.
use Rattle.std.proofs.Common.{◌≡◌, ℕ, List, [], ◌∷◌, ◌++◌, Option, IsSome, refl, sym, subst, ap, ◌∙◌, append-nil, append_assoc}
use Rattle.knx_base.specs.Files.{File, Seen}
use Rattle.knxsec_app.specs.declared.status.Status.{Status}
use Rattle.knxsec_app.specs.Commands.{IsWhole, IsNoneOf, OpensJust}
use Rattle.knxsec_app.specs.Order.{OpensFront, OpensFiles}

-- a name that is none of some names and others is none of either
none_first : (names rest : List (List ℕ)) (other : List ℕ) → IsNoneOf (names ++ rest) other → IsNoneOf names other
none_first [] rest other none = tt
none_first (name ∷ names) rest other none = (none.0, none_first names rest other none.1)

none_then : (names rest : List (List ℕ)) (other : List ℕ) → IsNoneOf (names ++ rest) other → IsNoneOf rest other
none_then [] rest other none = none
none_then (name ∷ names) rest other none = none_then names rest other none.1

-- ---- some files, and then others

pub just_none : (seen : Seen) → OpensJust [] seen seen
just_none seen = record { opened = sym (append-nil seen.opened); others = λ other none. refl }

pub just_then : (names rest : List (List ℕ)) (old mid new : Seen) → OpensJust names old mid → OpensJust rest mid new
    → OpensJust (names ++ rest) old new
just_then names rest old mid new first then_ = record {
  opened = then_.opened ∙ ap (λ (l : List (List ℕ)). l ++ rest) first.opened ∙ append_assoc old.opened names rest;
  others = λ other none. then_.others other (none_then names rest other none)
      ∙ first.others other (none_first names rest other none);
}

front_of : (names rest : List (List ℕ)) (old new : Seen) → OpensJust names old new → OpensFront (names ++ rest) old new
front_of names rest old new opens = record { front = names; rest = rest; names_are = refl; opens = opens }

front_then : (names rest : List (List ℕ)) (old mid new : Seen) → OpensJust names old mid → OpensFront rest mid new
    → OpensFront (names ++ rest) old new
front_then names rest old mid new first then_ = record {
  front = names ++ then_.front;
  rest = then_.rest;
  names_are = ap (λ (l : List (List ℕ)). names ++ l) then_.names_are ∙ sym (append_assoc names then_.front then_.rest);
  opens = just_then names then_.front old mid new first then_.opens;
}

fewer_front : (names rest : List (List ℕ)) (old new : Seen) → OpensFront names old new
    → OpensFront (names ++ rest) old new
fewer_front names rest old new opens = record {
  front = opens.front;
  rest = opens.rest ++ rest;
  names_are = ap (λ (l : List (List ℕ)). l ++ rest) opens.names_are ∙ append_assoc opens.front opens.rest rest;
  opens = opens.opens;
}

later_told : (old mid : Seen) → mid.told ≡ old.told → IsSome old.told → IsSome mid.told
later_told old mid same told = subst (λ (o : Option (List File)). IsSome o) (sym same) told

-- ---- the files that were asked for

-- none, and none was opened
pub opens_none : (status : Status) (seen : Seen) → OpensFiles [] status seen seen
opens_none status seen = record {
  told = refl;
  front = λ told. front_of [] [] seen seen (just_none seen);
  all = λ whole told. just_none seen;
}

-- all of them were opened
pub opens_all : (names : List (List ℕ)) (status : Status) (old new : Seen) → new.told ≡ old.told
    → (IsSome old.told → OpensJust names old new) → OpensFiles names status old new
opens_all names status old new same opens = record {
  told = same;
  front = λ told. record { front = names; rest = []; names_are = sym (append-nil names); opens = opens told };
  all = λ whole told. opens told;
}

-- some were opened, and those of them that another call asked for
pub opens_then : (names rest : List (List ℕ)) (status : Status) (old mid new : Seen) → mid.told ≡ old.told
    → (IsSome old.told → OpensJust names old mid) → OpensFiles rest status mid new
    → OpensFiles (names ++ rest) status old new
opens_then names rest status old mid new same first then_ = record {
  told = then_.told ∙ same;
  front = λ told. front_then names rest old mid new (first told) (then_.front (later_told old mid same told));
  all = λ whole told. just_then names rest old mid new (first told) (then_.all whole (later_told old mid same told));
}

-- those of the first, and no more, where the command ended with them
pub opens_no_more : (names rest : List (List ℕ)) (first status : Status) (old new : Seen) → (IsWhole status → ⊥)
    → OpensFiles names first old new → OpensFiles (names ++ rest) status old new
opens_no_more names rest first status old new not_whole opens = record {
  told = opens.told;
  front = λ told. fewer_front names rest old new (opens.front told);
  all = λ whole told. elim (not_whole whole) [ ];
}
