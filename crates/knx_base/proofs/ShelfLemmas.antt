-- Files in memory: the first of a name, and what is seen after one of them changed its place.
use Rattle.std.proofs.Common.{◌≡◌, ◌≢◌, ℕ, zero, suc, ◌+◌, ◌-◌, ◌<◌, ◌≤◌, min, take, drop, nat_eq, Bool, true, false, cond, List, [], ◌∷◌, ◌++◌, map, length, get_or, set, Option, Some, None, refl, sym, ap, ◌∙◌, subst, arith}
use Rattle.std.specs.List.{position, position_from}
use Rattle.std.proofs.Math.Seq.{map-set_same}
use Rattle.std.proofs.Math.ListN.{drop_of_length-le}
use Rattle.std.proofs.lemmas.List.{get_or-set_same}
use Rattle.std.specs.Cmp.Lexicographic.{pointwise}
use Rattle.std.proofs.lemmas.Bool.{false≢true}
use Rattle.std.proofs.lemmas.Slice.Eq.{bytes_eq-Decides}
use Rattle.std.proofs.lemmas.Iterator.Adapters.{position_from-zero}
use Rattle.std.specs.Option.{option_map, is_some}
use Rattle.std.specs.Prelude.{IsSome}
use Rattle.std.proofs.lemmas.Option.{same_Some}
use Rattle.knx_base.specs.Files.{octets_named, IsAtStart, MovesOn, last_place}
use Rattle.knx_base.specs.Shelf.{Stored, file_of, place_named, name_at, seen_in_memory, FirstAt}

abbrev has_name : List ℕ → Stored → Bool
has_name name stored = pointwise nat_eq stored.name name

named-true : (stored : Stored) (name : List ℕ) → has_name name stored ≡ true → stored.name ≡ name
named-true stored name is = (bytes_eq-Decides stored.name name).0 is

named-false : (stored : Stored) (name : List ℕ) → has_name name stored ≡ false → stored.name ≢ name
named-false stored name is same = false≢true (sym is ∙ (bytes_eq-Decides stored.name name).1 same)

true_named : (stored : Stored) (name : List ℕ) → stored.name ≡ name → has_name name stored ≡ true
true_named stored name same = (bytes_eq-Decides stored.name name).1 same

false_named : (stored : Stored) (name : List ℕ) → stored.name ≢ name → has_name name stored ≡ false
false_named stored name other = false_by stored name other (has_name name stored) refl
  where
    false_by : (stored : Stored) (name : List ℕ) → stored.name ≢ name → (b : Bool) → has_name name stored ≡ b
        → b ≡ false
    false_by stored name other true is = absurd (other (named-true stored name is))
    false_by stored name other false is = refl

-- no file has a name that no position was found for
none_step : (name : List ℕ) (k : ℕ) (stored : Stored) (rest : List Stored)
    → (position_from (has_name name) (k + 1) rest ≡ None → octets_named (map file_of rest) name ≡ None)
    → (b : Bool) → cond b (Some k) (position_from (has_name name) (k + 1) rest) ≡ None
    → cond b (Some stored.octets) (octets_named (map file_of rest) name) ≡ None
none_step name k stored rest ih true is = absurd cc
none_step name k stored rest ih false is = ih is

none_from : (name : List ℕ) (k : ℕ) (files : List Stored) → position_from (has_name name) k files ≡ None
    → octets_named (map file_of files) name ≡ None
none_from name k [] is = refl
none_from name k (stored ∷ rest) is =
    none_step name k stored rest (none_from name (k + 1) rest) (has_name name stored) is

-- a position that was found is that of the first file of the name
first_step : (name : List ℕ) (k i : ℕ) (stored : Stored) (rest : List Stored)
    → (position_from (has_name name) (k + 1) rest ≡ Some i → (j : ℕ) × (i ≡ (k + 1) + j) × FirstAt rest j name)
    → (b : Bool) → has_name name stored ≡ b → cond b (Some k) (position_from (has_name name) (k + 1) rest) ≡ Some i
    → (j : ℕ) × (i ≡ k + j) × FirstAt (stored ∷ rest) j name
first_step name k i stored rest ih true is found =
    let same : k ≡ i = cc in (zero, omega arith, named-true stored name is)
first_step name k i stored rest ih false is found =
    let later = ih found in (suc later.0, omega (arith, later.1), (named-false stored name is, later.2))

first_from : (name : List ℕ) (k i : ℕ) (files : List Stored) → position_from (has_name name) k files ≡ Some i
    → (j : ℕ) × (i ≡ k + j) × FirstAt files j name
first_from name k i [] found = absurd cc
first_from name k i (stored ∷ rest) found =
    first_step name k i stored rest (first_from name (k + 1) i rest) (has_name name stored) refl found

pub none-position : (files : List Stored) (name : List ℕ) → position (has_name name) files ≡ None
    → octets_named (map file_of files) name ≡ None
none-position files name is = none_from name 0 files (sym (position_from-zero (has_name name) files) ∙ is)

pub first-position : (files : List Stored) (name : List ℕ) (i : ℕ) → position (has_name name) files ≡ Some i
    → FirstAt files i name
first-position files name i is =
    let found = first_from name 0 i files (sym (position_from-zero (has_name name) files) ∙ is) in
    let P : ℕ → Type 0 = λ j. FirstAt files j name in
    let same : found.0 ≡ i = omega (arith, found.1) in
    subst P same found.2

-- of the first file of a name: where it stands, its name, octets and place
pub length-first : (files : List Stored) (i : ℕ) (name : List ℕ) → FirstAt files i name → i < length files
length-first [] i name first = absurd first
length-first (stored ∷ rest) zero name first = omega arith
length-first (stored ∷ rest) (suc i) name first = omega (arith, length-first rest i name first.1)

pub name-first : (files : List Stored) (i : ℕ) (name : List ℕ) (d : Stored) → FirstAt files i name
    → (get_or files i d).name ≡ name
name-first [] i name d first = absurd first
name-first (stored ∷ rest) zero name d first = first
name-first (stored ∷ rest) (suc i) name d first = name-first rest i name d first.1

pub name_at-first : (files : List Stored) (i : ℕ) (name : List ℕ) → FirstAt files i name → name_at files i ≡ name
name_at-first [] i name first = absurd first
name_at-first (stored ∷ rest) zero name first = first
name_at-first (stored ∷ rest) (suc i) name first = name_at-first rest i name first.1

pub octets-first : (files : List Stored) (i : ℕ) (name : List ℕ) (d : Stored) → FirstAt files i name
    → octets_named (map file_of files) name ≡ Some (get_or files i d).octets
octets-first [] i name d first = absurd first
octets-first (stored ∷ rest) zero name d first =
    ap (λ b. cond b (Some stored.octets) (octets_named (map file_of rest) name)) (true_named stored name first)
octets-first (stored ∷ rest) (suc i) name d first =
    ap (λ b. cond b (Some stored.octets) (octets_named (map file_of rest) name)) (false_named stored name first.0)
    ∙ octets-first rest i name d first.1

pub place-first : (files : List Stored) (i : ℕ) (name : List ℕ) (d : Stored) → FirstAt files i name
    → place_named files name ≡ (get_or files i d).place
place-first [] i name d first = absurd first
place-first (stored ∷ rest) zero name d first =
    ap (λ b. cond b stored.place (place_named rest name)) (true_named stored name first)
place-first (stored ∷ rest) (suc i) name d first =
    ap (λ b. cond b stored.place (place_named rest name)) (false_named stored name first.0)
    ∙ place-first rest i name d first.1

-- the first file of a name stays so where its place alone changes, and no other name's place changes
pub set-first : (files : List Stored) (i : ℕ) (name : List ℕ) (new : Stored) → FirstAt files i name → new.name ≡ name
    → FirstAt (set files i new) i name
set-first [] i name new first is = absurd first
set-first (stored ∷ rest) zero name new first is = is
set-first (stored ∷ rest) (suc i) name new first is = (first.0, set-first rest i name new first.1 is)

pub place_other : (files : List Stored) (i : ℕ) (name other : List ℕ) (new : Stored) → FirstAt files i name
    → new.name ≡ name
    → other ≢ name → place_named (set files i new) other ≡ place_named files other
place_other [] i name other new first is differs = absurd first
place_other (stored ∷ rest) zero name other new first is differs =
    ap (λ b. cond b new.place (place_named rest other)) (false_named new other (λ same. differs (sym same ∙ is)))
    ∙ sym (ap (λ b. cond b stored.place (place_named rest other))
    (false_named stored other (λ same. differs (sym same ∙ first))))
place_other (stored ∷ rest) (suc i) name other new first is differs =
    ap (λ back. cond (has_name other stored) stored.place back) (place_other rest i name other new first.1 is differs)

-- the first file of a name stays so where a file is added at the end
pub first-append : (files more : List Stored) (i : ℕ) (name : List ℕ) → FirstAt files i name
    → FirstAt (files ++ more) i name
first-append [] more i name first = absurd first
first-append (stored ∷ rest) more zero name first = first
first-append (stored ∷ rest) more (suc i) name first = (first.0, first-append rest more i name first.1)

-- where the place of one file alone changed, all files are told as before
pub told_set : (files : List Stored) (i : ℕ) (d old new : Stored) (place : ℕ) → old ≡ get_or files i d
    → new ≡ record old { place = place } → map file_of (set files i new) ≡ map file_of files
told_set files i d old new place is moved = map-set_same file_of files i new d (ap file_of moved ∙ ap file_of is)

-- the name of the file that changed
named_set : (files : List Stored) (i : ℕ) (name : List ℕ) (d old new : Stored) (place : ℕ) → FirstAt files i name
    → old ≡ get_or files i d → new ≡ record old { place = place } → new.name ≡ name
named_set files i name d old new place first is moved =
    ap (λ (f : Stored). f.name) moved ∙ ap (λ (f : Stored). f.name) is ∙ name-first files i name d first

-- the current file stays the first of its name
pub still_first : (files : List Stored) (i x : ℕ) (name : List ℕ) (d old new : Stored) (place : ℕ)
    → FirstAt files i name
    → old ≡ get_or files i d → new ≡ record old { place = place } → Some i ≡ Some x
    → FirstAt (set files i new) x (name_at (set files i new) x)
still_first files i x name d old new place first is moved same =
    let kept = set-first files i name new first (named_set files i name d old new place first is moved) in
    let P : ℕ → Type 0 = λ k. FirstAt (set files i new) k (name_at (set files i new) k) in
    let Q : List ℕ → Type 0 = λ n. FirstAt (set files i new) i n in
    subst P (same_Some i x same) (subst Q (sym (name_at-first (set files i new) i name kept)) kept)

-- the place of the file that changed
place_set : (files : List Stored) (i : ℕ) (name : List ℕ) (d old new : Stored) (place : ℕ) → FirstAt files i name
    → old ≡ get_or files i d → new ≡ record old { place = place } → place_named (set files i new) name ≡ place
place_set files i name d old new place first is moved =
    place-first (set files i new) i name d (set-first files i name new first
    (named_set files i name d old new place first is moved))
    ∙ ap (λ (f : Stored). f.place) (get_or-set_same files i new d (length-first files i name first))
    ∙ ap (λ (f : Stored). f.place) moved

-- the first file of a name was made current, at its start
pub opened : (files : List Stored) (current : Option (List ℕ)) (before after : List (List ℕ)) (i : ℕ) (name : List ℕ)
    (d old new : Stored)
    → FirstAt files i name
    → old ≡ get_or files i d → new ≡ record old { place = 0 }
    → IsAtStart (seen_in_memory files current before 0) (seen_in_memory (set files i new)
    (Some (name_at (set files i new) i)) after 0) name
opened files current before after i name d old new first is moved =
    let same_name = named_set files i name d old new 0 first is moved in
    let at_name = name_at-first (set files i new) i name (set-first files i name new first same_name) in
    let start = place_set files i name d old new 0 first is moved in
    record {
      current = refl;
      named = λ _. ap Some at_name;
      place = ap (place_named (set files i new)) at_name ∙ start;
      start = λ _. start;
    }

-- and no other file's place changed
pub opened_alone : (files : List Stored) (i : ℕ) (name : List ℕ) (d old new : Stored) (place : ℕ) → FirstAt files i name
    → old ≡ get_or files i d → new ≡ record old { place = place }
    → (other : List ℕ) → other ≢ name → place_named (set files i new) other ≡ place_named files other
opened_alone files i name d old new place first is moved other differs =
    place_other files i name other new first (named_set files i name d old new place first is moved) differs

-- the current file gave n octets
pub moved_on : (files : List Stored) (opened : List (List ℕ)) (i n room : ℕ) (d old new : Stored) (buffer : List ℕ)
    → FirstAt files i (name_at files i)
    → old ≡ get_or files i d → new ≡ record old { place = old.place + n }
    → n ≡ min room (length old.octets - old.place) → 0 < room → n ≤ length buffer
    → take n buffer ≡ take n (drop old.place old.octets) → new.place ≤ last_place
    → MovesOn (seen_in_memory files (Some (name_at files i)) opened 0)
    (seen_in_memory (set files i new) (Some (name_at (set files i new) i)) opened 0) buffer n
moved_on files opened i n room d old new buffer first is moved count some bound given last =
    let name = name_at files i in
    let same_name : new.name ≡ name = named_set files i name d old new (old.place + n) first is moved in
    let at_name : name_at (set files i new) i ≡ name =
    name_at-first (set files i new) i name (set-first files i name new first same_name) in
    let before : place_named files name ≡ old.place =
    place-first files i name d first ∙ sym (ap (λ (f : Stored). f.place) is) in
    let after : place_named (set files i new) name ≡ old.place + n =
    place_set files i name d old new (old.place + n) first is moved in
    let now : place_named (set files i new) (name_at (set files i new) i) ≡ old.place + n =
    ap (place_named (set files i new)) at_name ∙ after in
    let place_is : new.place ≡ old.place + n = ap (λ (f : Stored). f.place) moved in
    let told : (m octets : List ℕ) → Some name ≡ Some m → octets_named (map file_of files) m ≡ Some octets
    → old.octets ≡ octets =
    λ m octets same holds. ap (λ (f : Stored). f.octets) is
    ∙ same_Some (get_or files i d).octets octets
    (sym (octets-first files i name d first) ∙ ap (octets_named (map file_of files)) (same_Some name m same) ∙ holds) in
    record {
      bound = bound;
      current = ap Some at_name;
      place = now ∙ ap (λ p. p + n) (sym before);
      last = omega (arith, now, place_is, last);
      given = λ m octets same holds. given
          ∙ ap (λ p. take n (drop p old.octets)) (sym before)
          ∙ ap (λ l. take n (drop (place_named files name) l)) (told m octets same holds);
      end = λ m octets same holds none. ap (λ l. drop (place_named files name) l) (sym (told m octets same holds))
          ∙ drop_of_length-le old.octets (omega (arith, before, count, some, none));
      moved = λ m same _. ap (place_named (set files i new)) (sym (same_Some name m same) ∙ sym at_name);
    }

-- the search for a name in these files found this place
pub first_found : (files searched : List Stored) (name : List ℕ) (found : Option ℕ) (i : ℕ) → searched ≡ files
    → found ≡ position (has_name name) searched → found ≡ Some i → FirstAt files i name
first_found files searched name found i same is at =
    let P : List Stored → Type 0 = λ list. FirstAt list i name in
    subst P same (first-position searched name i (sym is ∙ at))

-- the search for a name that is there does not fail
pub never_missing : (files searched : List Stored) (name : List ℕ) (found : Option ℕ) → searched ≡ files
    → found ≡ position (has_name name) searched → found ≡ None → IsSome (octets_named (map file_of files) name) → ⊥
never_missing files searched name found same is none there =
    false≢true (sym (ap is_some (ap (λ list. octets_named (map file_of list) name) (sym same)
    ∙ none-position searched name (sym is ∙ none))) ∙ there)

-- the current file stays the first of its name where a file is added
pub first_added : (files more : List Stored) (i : ℕ) → FirstAt files i (name_at files i)
    → FirstAt (files ++ more) i (name_at (files ++ more) i)
first_added files more i first =
    let kept = first-append files more i (name_at files i) first in
    let P : List ℕ → Type 0 = λ name. FirstAt (files ++ more) i name in
    subst P (sym (name_at-first (files ++ more) i (name_at files i) kept)) kept

-- and keeps its name
pub named_added : (files more : List Stored) (current : Option ℕ)
    → ((i : ℕ) → current ≡ Some i → FirstAt files i (name_at files i))
    → option_map (name_at (files ++ more)) current ≡ option_map (name_at files) current
named_added files more None first = refl
named_added files more (Some i) first =
    ap Some (name_at-first (files ++ more) i (name_at files i)
    (first-append files more i (name_at files i) (first i refl)))

-- the name of the file that was found is listed
pub listed : (files : List Stored) (i : ℕ) (name : List ℕ) (d old new : Stored) (place : ℕ) (text : List ℕ)
    (before after : List (List ℕ)) → FirstAt files i name → old ≡ get_or files i d → new ≡ record old { place = place }
    → text ≡ new.name → after ≡ before ++ text ∷ [] → after ≡ before ++ name ∷ []
listed files i name d old new place text before after first is moved same adds =
    adds ∙ ap (λ n. before ++ n ∷ []) (same ∙ named_set files i name d old new place first is moved)
