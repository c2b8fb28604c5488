-- What is read at the front of a text is what the grammar has there, and nothing else.
use Rattle.std.proofs.Common.{◌≡◌, ℕ, zero, suc, ◌+◌, ◌<◌, Bool, true, false, cond, not, ◌||◌, ◌&&◌, inl, inr, List, [], ◌∷◌, ◌++◌, length, take, drop, codes, nat_eq, Option, Some, None, arith, ap, ◌∙◌, sym, refl, subst, eqb-true}
use Rattle.std.specs.Option.{option_map_or}
use Rattle.std.specs.List.{prefix_len, take_while, list_all, list_any, position_or_len, before_first, after_first}
use Rattle.std.specs.Cmp.Lexicographic.{pointwise}
use Rattle.std.specs.Str.Pattern.{LacksTextAt}
use Rattle.std.proofs.lemmas.Bool.Decides.{nat_tests}
use Rattle.std.proofs.lemmas.List.{append_assoc, length-append, take_at, drop_at}
use Rattle.std.proofs.lemmas.List.Folds.{length-prefix_len, list_any_none}
use Rattle.tag_text.specs.Octets.{BeginsOther, is_blank, is_octet, is_name_start, is_name_octet, begins_name, drop_while, after_blanks, after_mark, after_first_mark, cut_at, name_at}
use Rattle.tag_text.specs.Values.{is_quote, quoted_at, value_at}
use Rattle.tag_text.specs.Pieces.{◌>>=◌, Piece, Start, Empty, End, Skipped, begins_blank, is_text_octet, attribute_at, with_first, attributes_within, attributes_at, tag_end_at, tag_of, tag_with, start_tag_at, end_tag_at, skipped, instruction_at, comment_at, text_at, piece_at}
use Rattle.tag_text.specs.Attributes.{are_distinct}
use Rattle.tag_text.specs.Grammar.{IsBlanks, IsName, IsAttribute, IsAttributes, NoMore, OneMore, tag_end, IsTag, IsEndTag, IsEnclosed, IsLongest, text_test, IsPiece}
use Rattle.tag_text.proofs.OctetLemmas.{by_test, begins, after_mark_splits, first_mark_at, has_first_mark}
use Rattle.tag_text.proofs.PieceLemmas.{bind_some, test_some, either_some, skipped_some, HasName, has_name, has_attribute, has_tag_end, no_attribute, one_attribute, blanks_split, while_splits}

pub both : (a b : Bool) → (a && b) ≡ true → (a ≡ true) × (b ≡ true)
both true b is = (refl, is)
both false b is = cc is

-- where a run ends
run_length : (test : ℕ → Bool) (run rest : List ℕ) → list_all test run ≡ true → BeginsOther test rest
    → prefix_len test (run ++ rest) ≡ length run
run_length test [] [] pass ends = refl
run_length test [] (octet ∷ rest) pass ends = rw ends refl
run_length test (octet ∷ run) rest pass ends =
    let parts = both (test octet) (list_all test run) pass in
    rw (parts.0, run_length test run rest parts.1 ends) (omega arith)

run_front : (test : ℕ → Bool) (run rest : List ℕ) → list_all test run ≡ true → BeginsOther test rest
    → take_while test (run ++ rest) ≡ run
run_front test run rest pass ends =
    ap (λ (n : ℕ). take n (run ++ rest)) (run_length test run rest pass ends) ∙ take_at run rest (length run) refl

run_rest : (test : ℕ → Bool) (run rest : List ℕ) → list_all test run ≡ true → BeginsOther test rest
    → drop_while test (run ++ rest) ≡ rest
run_rest test run rest pass ends =
    ap (λ (front : List ℕ). drop (length front) (run ++ rest)) (run_front test run rest pass ends)
    ∙ drop_at run rest (length run) refl

-- what `take_while` takes passes, and what it leaves begins with another
front_case : (test : ℕ → Bool) (octet : ℕ) (text : List ℕ) (b : Bool) → test octet ≡ b
    → list_all test (take (prefix_len test text) text) ≡ true
    → list_all test (take (cond b (1 + prefix_len test text) 0) (octet ∷ text)) ≡ true
front_case test octet text true is rest =
    let one : suc (prefix_len test text) ≡ 1 + prefix_len test text = omega arith in
    let P : ℕ → Type 0 = λ n. list_all test (take n (octet ∷ text)) ≡ true in
    subst P one (rw (is, rest) refl)
front_case test octet text false is rest = refl

pub front_passes : (test : ℕ → Bool) (text : List ℕ) → list_all test (take_while test text) ≡ true
front_passes test [] = refl
front_passes test (octet ∷ text) =
    let P : Bool → Type 0 = λ b. list_all test (take (cond b (1 + prefix_len test text) 0) (octet ∷ text)) ≡ true in
    subst P refl (front_case test octet text (test octet) refl (front_passes test text))

rest_case : (test : ℕ → Bool) (octet : ℕ) (text : List ℕ) (b : Bool) → test octet ≡ b
    → BeginsOther test (drop (prefix_len test text) text)
    → BeginsOther test (drop (cond b (1 + prefix_len test text) 0) (octet ∷ text))
rest_case test octet text true is rest =
    let one : suc (prefix_len test text) ≡ 1 + prefix_len test text = omega arith in
    let P : ℕ → Type 0 = λ n. BeginsOther test (drop n (octet ∷ text)) in
    subst P one rest
rest_case test octet text false is rest = is

rest_other : (test : ℕ → Bool) (text : List ℕ) → BeginsOther test (drop (prefix_len test text) text)
rest_other test [] = tt
rest_other test (octet ∷ text) = rest_case test octet text (test octet) refl (rest_other test text)

pub rest_begins_other : (test : ℕ → Bool) (text : List ℕ) → BeginsOther test (drop_while test text)
rest_begins_other test text =
    let P : ℕ → Type 0 = λ n. BeginsOther test (drop n text) in
    subst P (sym (length-prefix_len test text)) (rest_other test text)

-- blanks before what begins with none
after_blanks_is : (blanks rest : List ℕ) → IsBlanks blanks → BeginsOther is_blank rest
    → after_blanks (blanks ++ rest) ≡ rest
unfolding after_blanks
after_blanks_is blanks rest blank other = run_rest is_blank blanks rest blank other

begins_longer : (name rest : List ℕ) → begins_name name ≡ true → begins_name (name ++ rest) ≡ true
begins_longer [] rest start = cc start
begins_longer (octet ∷ name) rest start = start

name_is : (name rest : List ℕ) → IsName name → BeginsOther is_name_octet rest
    → name_at (name ++ rest) ≡ Some (name, rest)
unfolding name_at
name_is name rest named other =
    let here : List ℕ × List ℕ = (take_while is_name_octet (name ++ rest), drop_while is_name_octet (name ++ rest)) in
    let there : List ℕ × List ℕ = (name, rest) in
    let same : here ≡ there = cc (
      run_front is_name_octet name rest named.octets other,
      run_rest is_name_octet name rest
          named.octets other,
    ) in
    rw (begins_longer name rest named.start) (ap Some same)

blank_in_no_name : (octet : ℕ) → is_blank octet ≡ true → is_name_octet octet ≡ false
blank_in_no_name octet blank = grind (arith, nat_tests)

name_no_blank : (octet : ℕ) → is_name_start octet ≡ true → is_blank octet ≡ false
name_no_blank octet start = grind (arith, nat_tests)

quote_no_blank : (octet : ℕ) → is_quote octet ≡ true → is_blank octet ≡ false
quote_no_blank octet quote = grind (arith, nat_tests)

-- what ends a name may follow blanks
blanks_then_other : (blanks rest : List ℕ) → IsBlanks blanks → BeginsOther is_name_octet rest
    → BeginsOther is_name_octet (blanks ++ rest)
blanks_then_other [] rest blank other = other
blanks_then_other (octet ∷ blanks) rest blank other =
    blank_in_no_name octet (both (is_blank octet) (list_all is_blank blanks) blank).0

name_begins_no_blank : (name rest : List ℕ) → IsName name → BeginsOther is_blank (name ++ rest)
name_begins_no_blank [] rest named = cc named.start
name_begins_no_blank (octet ∷ name) rest named = name_no_blank octet named.start

neither : (a b : Bool) → (a || b) ≡ false → (a ≡ false) × (b ≡ false)
neither true b is = cc is
neither false b is = (refl, is)

or_true : (a b : Bool) → b ≡ true → (a || b) ≡ true
or_true true b is = refl
or_true false b is = is

-- where an octet does not stand in a text
not_any : (octet : ℕ) (text : List ℕ) → list_any (is_octet octet) text ≡ false
    → list_all (λ other. not (is_octet octet other)) text ≡ true
not_any octet [] none = refl
not_any octet (other ∷ text) none =
    let parts = neither (is_octet octet other) (list_any (is_octet octet) text) none in
    rw (parts.0, not_any octet text parts.1) refl

same_octet : (octet : ℕ) → is_octet octet octet ≡ true
same_octet octet = grind (arith, nat_tests)

any_after : (octet : ℕ) (raw rest : List ℕ) → list_any (is_octet octet) (raw ++ octet ∷ rest) ≡ true
any_after octet [] rest = rw (same_octet octet) refl
any_after octet (other ∷ raw) rest =
    or_true (is_octet octet other) (list_any (is_octet octet) (raw ++ octet ∷ rest)) (any_after octet raw rest)

drop_past : (raw : List ℕ) (octet : ℕ) (rest : List ℕ) → drop (length raw + 1) (raw ++ octet ∷ rest) ≡ rest
drop_past [] octet rest = refl
drop_past (other ∷ raw) octet rest =
    let more : suc (length raw + 1) ≡ suc (length raw) + 1 = omega arith in
    let P : ℕ → Type 0 = λ n. drop n (other ∷ (raw ++ octet ∷ rest)) ≡ rest in
    subst P more (drop_past raw octet rest)

cut_is_at : (octet : ℕ) (raw rest : List ℕ) → list_any (is_octet octet) raw ≡ false
    → cut_at octet (raw ++ octet ∷ rest) ≡ Some (raw, rest)
unfolding cut_at
cut_is_at octet raw rest none =
    let test : ℕ → Bool = λ other. not (is_octet octet other) in
    let ends : test octet ≡ false = ap not (same_octet octet) in
    let long : prefix_len test (raw ++ octet ∷ rest) ≡ length raw =
    run_length test raw (octet ∷ rest) (not_any octet raw none) ends in
    let place_is : position_or_len (is_octet octet) (raw ++ octet ∷ rest) ≡ length raw = long in
    let front : before_first (is_octet octet) (raw ++ octet ∷ rest) ≡ raw =
    ap (λ (n : ℕ). take n (raw ++ octet ∷ rest)) place_is ∙ take_at raw (octet ∷ rest) (length raw) refl in
    let back : after_first (is_octet octet) (raw ++ octet ∷ rest) ≡ rest =
    ap (λ (n : ℕ). drop (n + 1) (raw ++ octet ∷ rest)) place_is ∙ drop_past raw octet rest in
    rw (any_after octet raw rest, front, back) refl

quoted_is : (quote : ℕ) (raw rest : List ℕ) → is_quote quote ≡ true → list_any (is_octet quote) raw ≡ false
    → list_any (is_octet 60) raw ≡ false
    → quoted_at (quote ∷ (raw ++ quote ∷ rest)) ≡ Some (raw, rest)
unfolding quoted_at
quoted_is quote raw rest is none closed = rw (is, cut_is_at quote raw rest none, closed) refl

mark_is : (mark rest : List ℕ) → after_mark mark (mark ++ rest) ≡ Some rest
unfolding after_mark
mark_is mark rest =
    rw (begins mark (mark ++ rest) rest refl) (ap Some (drop_at mark rest (length mark) refl))

-- an attribute of the grammar is read
attribute_is : (text rest name value : List ℕ) → IsAttribute text rest name value
    → attribute_at text ≡ Some ((name, value), rest)
unfolding attribute_at value_at
attribute_is text rest name value is =
    let quotes : List ℕ = is.quote ∷ (is.raw ++ is.quote ∷ rest) in
    let after_name : List ℕ = is.before ++ 61 ∷ (is.after ++ quotes) in
    let first : after_blanks text ≡ name ++ after_name =
    ap after_blanks is.spelled ∙ after_blanks_is (is.first ∷ is.blanks) (name ++ after_name) is.separated
    (name_begins_no_blank name after_name is.named) in
    let blank : begins_blank text ≡ true =
    ap begins_blank is.spelled ∙ (both (is_blank is.first) (list_all is_blank is.blanks) is.separated).0 in
    let named : name_at (after_blanks text) ≡ Some (name, after_name) =
    ap name_at first ∙ name_is name after_name is.named (blanks_then_other is.before (61 ∷ (is.after ++ quotes))
    is.blank_before refl) in
    let equals : after_mark (codes "=") (after_blanks after_name) ≡ Some (is.after ++ quotes) =
    ap (after_mark (codes "=")) (after_blanks_is is.before (61 ∷ (is.after ++ quotes)) is.blank_before refl)
    ∙ mark_is (codes "=") (is.after ++ quotes) in
    let quoted : quoted_at (after_blanks (is.after ++ quotes)) ≡ Some (is.raw, rest) =
    ap quoted_at (after_blanks_is is.after quotes is.blank_after (quote_no_blank is.quote is.quoted))
    ∙ quoted_is is.quote is.raw rest is.quoted is.no_quote is.no_tag in
    rw (blank, named, equals, quoted, is.value_is) refl

while_cons : (test : ℕ → Bool) (octet : ℕ) (text : List ℕ) → test octet ≡ true → take_while test (octet ∷ text) ≡ octet
    ∷ take_while test text
while_cons test octet text passes =
    let P : Bool → Type 0 =
    λ b. take (cond b (1 + prefix_len test text) 0) (octet ∷ text) ≡ octet ∷ take_while test text in
    let Q : ℕ → Type 0 = λ n. take n (octet ∷ text) ≡ octet ∷ take_while test text in
    let one : suc (prefix_len test text) ≡ 1 + prefix_len test text = omega arith in
    subst P (sym passes) (subst Q one refl)

name_octet_start : (octet : ℕ) → is_name_start octet ≡ true → is_name_octet octet ≡ true
name_octet_start octet start = grind (arith, nat_tests)

front_begins : (text : List ℕ) → begins_name text ≡ true → begins_name (take_while is_name_octet text) ≡ true
front_begins [] start = cc start
front_begins (octet ∷ text) start = rw (while_cons is_name_octet octet text (name_octet_start octet start)) start

is_name : (text : List ℕ) (name : List ℕ × List ℕ) → HasName text name → IsName name.0
is_name text name has = record {
  start = rw has.octets (front_begins text has.begins);
  octets = rw has.octets (front_passes is_name_octet text);
}

blanks_first : (text : List ℕ) → begins_blank text ≡ true → (octet : ℕ) × (others : List ℕ)
    × (take_while is_blank text ≡ octet ∷ others)
blanks_first [] blank = cc blank
blanks_first (octet ∷ text) blank = (octet, take_while is_blank text, while_cons is_blank octet text blank)

-- what is read is an attribute of the grammar
is_attribute : (text : List ℕ) (attribute : (List ℕ × List ℕ) × List ℕ) → attribute_at text ≡ Some attribute
    → IsAttribute text attribute.1 attribute.0.0 attribute.0.1
is_attribute text attribute found =
    let has = has_attribute text attribute found in
    let name : List ℕ = attribute.0.0 in
    let first = blanks_first text has.begins in
    let before : List ℕ = take_while is_blank has.after_name in
    let after : List ℕ = take_while is_blank has.after_equals in
    let quote : ℕ = has.value.quoted.quote in
    let raw : List ℕ = has.value.raw in
    let fourth : has.after_equals ≡ after ++ quote ∷ (raw ++ quote ∷ attribute.1) =
    blanks_split has.after_equals ∙ ap (λ (rest : List ℕ). after ++ rest) has.value.quoted.splits in
    let third : has.after_name ≡ before ++ 61 ∷ (after ++ quote ∷ (raw ++ quote ∷ attribute.1)) =
    blanks_split has.after_name ∙ ap (λ (rest : List ℕ). before ++ rest)
    (after_mark_splits (codes "=") (after_blanks has.after_name) has.after_equals has.equals)
    ∙ ap (λ (rest : List ℕ). before ++ 61 ∷ rest) fourth in
    let second : after_blanks text ≡ name ++ (before ++ 61 ∷ (after ++ quote ∷ (raw ++ quote ∷ attribute.1))) =
    has.name.splits ∙ ap (λ (rest : List ℕ). name ++ rest) third in
    record {
      first = first.0;
      blanks = first.1;
      before = before;
      after = after;
      quote = quote;
      raw = raw;
      spelled = blanks_split text ∙ ap (λ (front : List ℕ). front ++ after_blanks text) first.2
          ∙ ap (λ (rest : List ℕ). (first.0 ∷ first.1) ++ rest) second;
      separated = rw first.2 at (front_passes is_blank text);
      named = is_name (after_blanks text) (name, has.after_name) has.name;
      blank_before = front_passes is_blank has.after_name;
      blank_after = front_passes is_blank has.after_equals;
      quoted = has.value.quoted.is;
      no_quote = list_any_none (is_octet quote) raw has.value.quoted.lacks;
      no_tag = has.value.quoted.opens;
      value_is = has.value.value;
    }

-- the end of a tag is no attribute
end_no_name : (empty : Bool) (rest : List ℕ) → BeginsOther is_name_octet (tag_end empty ++ rest)
end_no_name true rest = refl
end_no_name false rest = refl

end_no_blank : (empty : Bool) (rest : List ℕ) → BeginsOther is_blank (tag_end empty ++ rest)
end_no_blank true rest = refl
end_no_blank false rest = refl

no_name_at_end : (empty : Bool) (rest : List ℕ) → name_at (tag_end empty ++ rest) ≡ None
unfolding name_at
no_name_at_end true rest = refl
no_name_at_end false rest = refl

none_either : {A : Type 0} (b : Bool) → cond {A = Option A} b None None ≡ None
none_either true = refl
none_either false = refl

no_attribute_at_end : (empty : Bool) (blanks rest : List ℕ) → IsBlanks blanks
    → attribute_at (blanks ++ (tag_end empty ++ rest)) ≡ None
unfolding attribute_at
no_attribute_at_end empty blanks rest blank =
    let none : name_at (after_blanks (blanks ++ (tag_end empty ++ rest))) ≡ None =
    ap name_at (after_blanks_is blanks (tag_end empty ++ rest) blank (end_no_blank empty rest))
    ∙ no_name_at_end empty rest in
    rw none (none_either (begins_blank (blanks ++ (tag_end empty ++ rest))))

-- the attributes of the grammar are read
attributes_are : (rest text : List ℕ) (attributes : List (List ℕ × List ℕ)) → IsAttributes rest text attributes
    → attribute_at rest ≡ None → attributes_at text ≡ (attributes, rest)
attributes_are rest text attributes NoMore none = no_attribute rest none
attributes_are rest text attributes (OneMore {middle = middle} {name = name} {value = value} one more) none =
    one_attribute text ((name, value), middle) (attribute_is text middle name value one)
    ∙ ap (λ (found : List (List ℕ × List ℕ) × List ℕ). with_first (name, value) found)
    (attributes_are rest middle _ more none)

-- what is read are the attributes of the grammar, and no more are there
attributes_found : (n : ℕ) (text : List ℕ) (o : Option ((List ℕ × List ℕ) × List ℕ)) → attribute_at text ≡ o
    → ((found : (List ℕ × List ℕ) × List ℕ) → IsAttributes (attributes_within n found.1).1 found.1
    (attributes_within n found.1).0)
    → IsAttributes (option_map_or (λ found. with_first found.0 (attributes_within n found.1)) o ([], text)).1 text
    (option_map_or (λ found. with_first found.0 (attributes_within n found.1)) o ([], text)).0
attributes_found n text None is more = NoMore
attributes_found n text (Some found) is more = OneMore (is_attribute text found is) (more found)

are_attributes_within : (n : ℕ) (text : List ℕ) → IsAttributes (attributes_within n text).1 text
    (attributes_within n text).0
are_attributes_within zero text = NoMore
are_attributes_within (suc n) text =
    attributes_found n text (attribute_at text) refl (λ found. are_attributes_within n found.1)

are_attributes : (text : List ℕ) → IsAttributes (attributes_at text).1 text (attributes_at text).0
unfolding attributes_at
are_attributes text = are_attributes_within (length text) text

-- the end of a tag
no_slash : (rest : List ℕ) → after_mark (codes "/>") (62 ∷ rest) ≡ None
unfolding after_mark
no_slash rest = refl

tag_end_is : (empty : Bool) (blanks rest : List ℕ) → IsBlanks blanks
    → tag_end_at (blanks ++ (tag_end empty ++ rest)) ≡ Some (empty, rest)
unfolding tag_end_at
tag_end_is true blanks rest blank =
    rw (after_blanks_is blanks (codes "/>" ++ rest) blank refl, mark_is (codes "/>") rest) refl
tag_end_is false blanks rest blank =
    rw (after_blanks_is blanks (codes ">" ++ rest) blank refl, no_slash rest, mark_is (codes ">") rest) refl

is_tag_end : (text : List ℕ) (end : Bool × List ℕ) → tag_end_at text ≡ Some end → text ≡ take_while is_blank text
    ++ (tag_end end.0 ++ end.1)
is_tag_end text end found =
    let has = has_tag_end text end found in
    let front : List ℕ = take_while is_blank text in
    elim has.is [
      | inl slash ↦ blanks_split text ∙ ap (λ (rest : List ℕ). front ++ rest)
          (after_mark_splits (codes "/>") (after_blanks text) end.1 slash.1)
          ∙ ap (λ (empty : Bool). front ++ (tag_end empty ++ end.1)) (sym slash.0)
      | inr plain ↦ blanks_split text ∙ ap (λ (rest : List ℕ). front ++ rest)
          (after_mark_splits (codes ">") (after_blanks text) end.1 plain.1)
          ∙ ap (λ (empty : Bool). front ++ (tag_end empty ++ end.1)) (sym plain.0)
    ]

-- a name is ended by what may follow it in a tag
attributes_end_name : (rest text : List ℕ) (attributes : List (List ℕ × List ℕ)) → IsAttributes rest text attributes
    → BeginsOther is_name_octet rest → BeginsOther is_name_octet text
attributes_end_name rest text attributes NoMore other = other
attributes_end_name rest text attributes (OneMore one more) other =
    let P : List ℕ → Type 0 = λ octets. BeginsOther is_name_octet octets in
    subst P (sym one.spelled) (blank_in_no_name one.first (both (is_blank one.first) (list_all is_blank one.blanks)
    one.separated).0)

tag_is : (text rest : List ℕ) (empty : Bool) (name : List ℕ) (attributes : List (List ℕ × List ℕ))
    → IsTag text rest empty name attributes
    → start_tag_at text ≡ Some (tag_of empty name attributes, rest)
unfolding start_tag_at
tag_is text rest empty name attributes is =
    let tail : List ℕ = is.blanks ++ (tag_end empty ++ rest) in
    let opened : after_mark (codes "<") text ≡ Some (name ++ is.body) =
    ap (after_mark (codes "<")) is.spelled ∙ mark_is (codes "<") (name ++ is.body) in
    let named : name_at (name ++ is.body) ≡ Some (name, is.body) =
    name_is name is.body is.named (attributes_end_name tail is.body attributes is.attributed
    (blanks_then_other is.blanks (tag_end empty ++ rest) is.blank (end_no_name empty rest))) in
    let attributed : attributes_at is.body ≡ (attributes, tail) =
    attributes_are tail is.body attributes is.attributed (no_attribute_at_end empty is.blanks rest is.blank) in
    rw (opened, named, attributed, tag_end_is empty is.blanks rest is.blank, is.distinct) refl

end_tag_is : (text rest name : List ℕ) → IsEndTag text rest name → end_tag_at text ≡ Some (End name, rest)
unfolding end_tag_at
end_tag_is text rest name is =
    let opened : after_mark (codes "</") text ≡ Some (name ++ (is.blanks ++ 62 ∷ rest)) =
    ap (after_mark (codes "</")) is.spelled ∙ mark_is (codes "</") (name ++ (is.blanks ++ 62 ∷ rest)) in
    let named : name_at (name ++ (is.blanks ++ 62 ∷ rest)) ≡ Some (name, is.blanks ++ 62 ∷ rest) =
    name_is name (is.blanks ++ 62 ∷ rest) is.named (blanks_then_other is.blanks (62 ∷ rest) is.blank refl) in
    let ended : after_mark (codes ">") (after_blanks (is.blanks ++ 62 ∷ rest)) ≡ Some rest =
    ap (after_mark (codes ">")) (after_blanks_is is.blanks (62 ∷ rest) is.blank refl) ∙ mark_is (codes ">") rest in
    rw (opened, named, ended) refl

-- what is read is such a tag
is_tag : (text : List ℕ) (found : Piece × List ℕ) → start_tag_at text ≡ Some found
    → (empty : Bool) × (name : List ℕ) × (attributes : List (List ℕ × List ℕ))
    × (found.0 ≡ tag_of empty name attributes) × IsTag text found.1 empty name attributes
unfolding start_tag_at
is_tag text found is =
    let last : List ℕ × List ℕ → Option (Piece × List ℕ) =
    λ name. tag_with name.0 (attributes_at name.1).0 (attributes_at name.1).1 in
    let opened = bind_some (after_mark (codes "<") text) (λ (opened : List ℕ). name_at opened >>= last) found is in
    let name = bind_some (name_at opened.0) last found opened.2 in
    let attributes : List (List ℕ × List ℕ) = (attributes_at name.0.1).0 in
    let tail : List ℕ = (attributes_at name.0.1).1 in
    let tag : Bool × List ℕ → Option (Piece × List ℕ) =
    λ end. cond (are_distinct attributes) (Some (tag_of end.0 name.0.0 attributes, end.1)) None in
    let end = bind_some (tag_end_at tail) tag found name.2 in
    let whole : Piece × List ℕ = (tag_of end.0.0 name.0.0 attributes, end.0.1) in
    let distinct = test_some (are_distinct attributes) (Some whole) found end.2 in
    let same : whole ≡ found = cc distinct.1 in
    let has = has_name opened.0 name.0 name.1 in
    let blanks : List ℕ = take_while is_blank tail in
    let T : Piece × List ℕ → Type 0 = λ found'.
    (empty : Bool) × (name : List ℕ) × (attributes : List (List ℕ × List ℕ)) × (found'.0 ≡ tag_of empty name attributes)
    × IsTag text found'.1 empty name attributes in
    let A : List ℕ → Type 0 = λ rest. IsAttributes rest name.0.1 attributes in
    subst T same (
      end.0.0,
      name.0.0,
      attributes,
      refl,
      record {
        body = name.0.1;
        blanks = blanks;
        spelled = after_mark_splits (codes "<") text opened.0 opened.1 ∙ ap (λ (rest : List ℕ). 60 ∷ rest) has.splits;
        named = is_name opened.0 name.0 has;
        attributed = subst A (is_tag_end tail end.0 end.1) (are_attributes name.0.1);
        blank = front_passes is_blank tail;
        distinct = distinct.0;
      },
    )

is_end_tag : (text : List ℕ) (found : Piece × List ℕ) → end_tag_at text ≡ Some found → (name : List ℕ)
    × (found.0 ≡ End name) × IsEndTag text found.1 name
unfolding end_tag_at
is_end_tag text found is =
    let third : List ℕ × List ℕ → List ℕ → Option (Piece × List ℕ) = λ name after. Some (End name.0, after) in
    let second : List ℕ × List ℕ → Option (Piece × List ℕ) =
    λ name. after_mark (codes ">") (after_blanks name.1) >>= third name in
    let opened = bind_some (after_mark (codes "</") text) (λ (opened : List ℕ). name_at opened >>= second) found is in
    let name = bind_some (name_at opened.0) second found opened.2 in
    let after = bind_some (after_mark (codes ">") (after_blanks name.0.1)) (third name.0) found name.2 in
    let whole : Piece × List ℕ = (End name.0.0, after.0) in
    let same : whole ≡ found = cc after.2 in
    let has = has_name opened.0 name.0 name.1 in
    let blanks : List ℕ = take_while is_blank name.0.1 in
    let ended : name.0.1 ≡ blanks ++ 62 ∷ after.0 =
    blanks_split name.0.1 ∙ ap (λ (rest : List ℕ). blanks ++ rest)
    (after_mark_splits (codes ">") (after_blanks name.0.1) after.0 after.1) in
    let T : Piece × List ℕ → Type 0 = λ found'. (name : List ℕ) × (found'.0 ≡ End name) × IsEndTag text found'.1 name in
    subst T same (
      name.0.0,
      refl,
      record {
        blanks = blanks;
        spelled =
            after_mark_splits (codes "</") text opened.0 opened.1 ∙ ap (λ (rest : List ℕ). 60 ∷ 47 ∷ rest)
            (has.splits ∙ ap (λ (rest : List ℕ). name.0.0 ++ rest) ended);
        named = is_name opened.0 name.0 has;
        blank = front_passes is_blank name.0.1;
      },
    )

-- what two marks enclose
enclosed_is : (opening closing text rest : List ℕ) → 0 < length closing → IsEnclosed opening closing text rest
    → (after_mark opening text >>= after_first_mark closing) ≡ Some rest
enclosed_is opening closing text rest some is =
    let inner : List ℕ = is.content ++ (closing ++ rest) in
    let opened : after_mark opening text ≡ Some inner = ap (after_mark opening) is.spelled ∙ mark_is opening inner in
    let regrouped : inner ≡ (is.content ++ closing) ++ rest = sym (append_assoc is.content closing rest) in
    let last : drop (length is.content + length closing) inner ≡ rest =
    ap (λ (octets : List ℕ). drop (length is.content + length closing) octets) regrouped
    ∙ drop_at (is.content ++ closing) rest (length is.content + length closing) (length-append is.content closing) in
    let here : drop (length is.content) inner ≡ closing ++ drop (length is.content + length closing) inner =
    drop_at is.content (closing ++ rest) (length is.content) refl
    ∙ ap (λ (octets : List ℕ). closing ++ octets) (sym last) in
    ap (λ (o : Option (List ℕ)). o >>= after_first_mark closing) opened
    ∙ first_mark_at closing inner (length is.content) (length is.content + length closing) some is.next here refl
    ∙ ap Some last

is_enclosed : (opening closing text rest : List ℕ) → (after_mark opening text >>= after_first_mark closing) ≡ Some rest
    → IsEnclosed opening closing text rest
is_enclosed opening closing text rest found =
    let opened = bind_some (after_mark opening text) (after_first_mark closing) rest found in
    let closed = has_first_mark closing opened.0 rest opened.2 in
    let L : List ℕ → Type 0 = λ octets. (k : ℕ) → k < length closed.front → LacksTextAt closing octets k in
    record {
      content = closed.front;
      spelled =
          after_mark_splits opening text opened.0 opened.1 ∙ ap (λ (inner : List ℕ). opening ++ inner) closed.splits;
      next = subst L closed.splits closed.first;
    }

-- the longest run of text, or of blanks
text_none : (inside : Bool) (rest : List ℕ) → text_at inside (60 ∷ rest) ≡ None
unfolding text_at
text_none true rest = refl
text_none false rest = refl

run_taken : (test : ℕ → Bool) (first : ℕ) (others rest : List ℕ) → list_all test (first ∷ others) ≡ true
    → BeginsOther test rest
    → cond {A = Option (List ℕ)} (test first) (Some (drop_while test (first ∷ (others ++ rest)))) None ≡ Some rest
run_taken test first others rest pass longest =
    ap (λ (b : Bool). cond {A = Option (List ℕ)} b (Some (drop_while test (first ∷ (others ++ rest)))) None)
    (both (test first) (list_all test others) pass).0
    ∙ ap Some (run_rest test (first ∷ others) rest pass longest)

text_is : (inside : Bool) (text rest : List ℕ) → IsLongest (text_test inside) text rest
    → text_at inside text ≡ Some rest
unfolding text_at after_blanks
text_is true text rest is =
    ap (text_at true) is.spelled ∙ run_taken is_text_octet is.first is.others rest is.pass is.longest
text_is false text rest is =
    ap (text_at false) is.spelled ∙ run_taken is_blank is.first is.others rest is.pass is.longest

taken_run : (test : ℕ → Bool) (first : ℕ) (text rest : List ℕ)
    → cond {A = Option (List ℕ)} (test first) (Some (drop_while test (first ∷ text))) None ≡ Some rest
    → IsLongest test (first ∷ text) rest
taken_run test first text rest found =
    let parts = test_some (test first) (Some (drop_while test (first ∷ text))) rest found in
    let same : drop_while test (first ∷ text) ≡ rest = cc parts.1 in
    let front : take_while test (first ∷ text) ≡ first ∷ take_while test text = while_cons test first text parts.0 in
    let B : List ℕ → Type 0 = λ octets. BeginsOther test octets in
    record {
      first = first;
      others = take_while test text;
      spelled =
          while_splits test (first ∷ text) ∙ ap (λ (octets : List ℕ). octets ++ drop_while test (first ∷ text)) front
          ∙ ap (λ (octets : List ℕ). (first ∷ take_while test text) ++ octets) same;
      pass = rw front at (front_passes test (first ∷ text));
      longest = subst B same (rest_begins_other test (first ∷ text));
    }

is_text : (inside : Bool) (text rest : List ℕ) → text_at inside text ≡ Some rest
    → IsLongest (text_test inside) text rest
unfolding text_at after_blanks
is_text true [] rest found = cc found
is_text true (octet ∷ text) rest found = taken_run is_text_octet octet text rest found
is_text false [] rest found = cc found
is_text false (octet ∷ text) rest found = taken_run is_blank octet text rest found

-- what begins a piece of one kind begins none of another
not_open : (test : ℕ → Bool) (octet : ℕ) → test 60 ≡ false → test octet ≡ true → nat_eq 60 octet ≡ false
not_open test octet opens passes =
    by_test (nat_eq 60 octet) (λ same. cc (ap test (eqb-true 60 octet same), opens, passes))

first_differs : (first : ℕ) (mark : List ℕ) (octet : ℕ) (text : List ℕ) → nat_eq first octet ≡ false
    → after_mark (first ∷ mark) (octet ∷ text) ≡ None
unfolding after_mark
first_differs first mark octet text is =
    ap (λ (b : Bool). cond {A = Option (List ℕ)} (b && pointwise nat_eq mark (take (length mark) text))
    (Some (drop (length (first ∷ mark)) (octet ∷ text))) None) is

second_differs : (second : ℕ) (mark : List ℕ) (octet : ℕ) (text : List ℕ) → nat_eq second octet ≡ false
    → after_mark (60 ∷ second ∷ mark) (60 ∷ octet ∷ text) ≡ None
unfolding after_mark
second_differs second mark octet text is =
    ap (λ (b : Bool). cond {A = Option (List ℕ)} (b && pointwise nat_eq mark (take (length mark) text))
    (Some (drop (length (60 ∷ second ∷ mark)) (60 ∷ octet ∷ text))) None) is

no_instruction : (text : List ℕ) → after_mark (codes "<?") text ≡ None → instruction_at text ≡ None
unfolding instruction_at
no_instruction text none = rw none refl

no_comment : (text : List ℕ) → after_mark (codes "<!--") text ≡ None → comment_at text ≡ None
unfolding comment_at
no_comment text none = rw none refl

no_end_tag : (text : List ℕ) → after_mark (codes "</") text ≡ None → end_tag_at text ≡ None
unfolding end_tag_at
no_end_tag text none = rw none refl

instruction_is : (text rest : List ℕ) → IsEnclosed (codes "<?") (codes "?>") text rest → instruction_at text ≡ Some rest
unfolding instruction_at
instruction_is text rest is = enclosed_is (codes "<?") (codes "?>") text rest (omega arith) is

comment_is : (text rest : List ℕ) → IsEnclosed (codes "<!--") (codes "-->") text rest → comment_at text ≡ Some rest
unfolding comment_at
comment_is text rest is = enclosed_is (codes "<!--") (codes "-->") text rest (omega arith) is

-- the first octet of a name is none of a mark
name_first : (name : List ℕ) → begins_name name ≡ true → (first : ℕ) × (others : List ℕ) × (name ≡ first ∷ others)
    × (is_name_start first ≡ true)
name_first [] start = cc start
name_first (first ∷ others) start = (first, others, refl, start)

no_mark_octet : (first : ℕ) → is_name_start first ≡ true → (nat_eq 63 first ≡ false) × (nat_eq 33 first ≡ false)
    × (nat_eq 47 first ≡ false)
no_mark_octet first start = (
  by_test (nat_eq 63 first) (λ same. cc (ap is_name_start (eqb-true 63 first same), start)),
  by_test (nat_eq 33 first) (λ same. cc (ap is_name_start (eqb-true 33 first same), start)),
  by_test (nat_eq 47 first) (λ same. cc (ap is_name_start (eqb-true 47 first same), start)),
)

tag_piece_is : (inside : Bool) (text rest : List ℕ) (empty : Bool) (name : List ℕ) (attributes : List (List ℕ × List ℕ))
    → IsTag text rest empty name attributes → piece_at inside text ≡ Some (tag_of empty name attributes, rest)
unfolding piece_at
tag_piece_is inside text rest empty name attributes is =
    let first = name_first name is.named.start in
    let others : List ℕ = first.1 ++ is.body in
    let spelled : text ≡ 60 ∷ first.0 ∷ others =
    is.spelled ∙ ap (λ (octets : List ℕ). 60 ∷ (octets ++ is.body)) first.2 in
    let differs = no_mark_octet first.0 first.3 in
    let instruction : instruction_at text ≡ None =
    no_instruction text (ap (after_mark (codes "<?")) spelled ∙ second_differs 63 [] first.0 others differs.0) in
    let comment : comment_at text ≡ None = no_comment text (ap (after_mark (codes "<!--")) spelled
    ∙ second_differs 33 (codes "--") first.0 others differs.1) in
    let octets : text_at inside text ≡ None = ap (text_at inside) spelled ∙ text_none inside (first.0 ∷ others) in
    let end : end_tag_at text ≡ None =
    no_end_tag text (ap (after_mark (codes "</")) spelled ∙ second_differs 47 [] first.0 others differs.2) in
    rw (instruction, comment, octets, end, tag_is text rest empty name attributes is) refl

end_piece_is : (inside : Bool) (text rest name : List ℕ) → IsEndTag text rest name
    → piece_at inside text ≡ Some (End name, rest)
unfolding piece_at
end_piece_is inside text rest name is =
    let others : List ℕ = name ++ (is.blanks ++ 62 ∷ rest) in
    let instruction : instruction_at text ≡ None =
    no_instruction text (ap (after_mark (codes "<?")) is.spelled ∙ second_differs 63 [] 47 others refl) in
    let comment : comment_at text ≡ None =
    no_comment text (ap (after_mark (codes "<!--")) is.spelled ∙ second_differs 33 (codes "--") 47 others refl) in
    let octets : text_at inside text ≡ None = ap (text_at inside) is.spelled ∙ text_none inside (47 ∷ others) in
    rw (instruction, comment, octets, end_tag_is text rest name is) refl

no_open : (inside : Bool) → text_test inside 60 ≡ false
no_open true = refl
no_open false = refl

skipped_piece_is : (inside : Bool) (text rest : List ℕ) → IsPiece inside text rest Skipped
    → piece_at inside text ≡ Some (Skipped, rest)
unfolding piece_at
skipped_piece_is inside text rest (inl instruction) = rw (instruction_is text rest instruction) refl
skipped_piece_is inside text rest (inr (inl comment)) =
    let none : instruction_at text ≡ None =
    no_instruction text (ap (after_mark (codes "<?")) comment.spelled ∙ second_differs 63 [] 33 _ refl) in
    rw (none, comment_is text rest comment) refl
skipped_piece_is inside text rest (inr (inr longest)) =
    let differs : nat_eq 60 longest.first ≡ false =
    not_open (text_test inside) longest.first (no_open inside)
    (both (text_test inside longest.first) (list_all (text_test inside) longest.others) longest.pass).0 in
    let others : List ℕ = longest.others ++ rest in
    let instruction : instruction_at text ≡ None = no_instruction text
    (ap (after_mark (codes "<?")) longest.spelled ∙ first_differs 60 (codes "?") longest.first others differs) in
    let comment : comment_at text ≡ None = no_comment text (ap (after_mark (codes "<!--")) longest.spelled
    ∙ first_differs 60 (codes "!--") longest.first others differs) in
    rw (instruction, comment, text_is inside text rest longest) refl

-- a piece of the grammar is read
pub piece_is : (inside : Bool) (text rest : List ℕ) (p : Piece) → IsPiece inside text rest p
    → piece_at inside text ≡ Some (p, rest)
piece_is inside text rest (Start name attributes) is = tag_piece_is inside text rest false name attributes is
piece_is inside text rest (Empty name attributes) is = tag_piece_is inside text rest true name attributes is
piece_is inside text rest (End name) is = end_piece_is inside text rest name is
piece_is inside text rest Skipped is = skipped_piece_is inside text rest is

tag_piece : (inside : Bool) (text rest : List ℕ) (empty : Bool) (name : List ℕ) (attributes : List (List ℕ × List ℕ))
    → IsTag text rest empty name attributes → IsPiece inside text rest (tag_of empty name attributes)
tag_piece inside text rest true name attributes is = is
tag_piece inside text rest false name attributes is = is

-- what is read is a piece of the grammar
pub is_piece : (inside : Bool) (text : List ℕ) (found : Piece × List ℕ) → piece_at inside text ≡ Some found
    → IsPiece inside text found.1 found.0
unfolding piece_at instruction_at comment_at
is_piece inside text found is =
    let P : Piece → Type 0 = λ p. IsPiece inside text found.1 p in
    elim (either_some (skipped (instruction_at text)) _ found is) [
      | inl instruction ↦ (let taken = skipped_some (instruction_at text) found instruction in
          subst P (sym (ap (λ (pair : Piece × List ℕ). pair.0) taken.1))
          (inl (is_enclosed (codes "<?") (codes "?>") text found.1 taken.0)))
      | inr others ↦ elim (either_some (skipped (comment_at text)) _ found others) [
        | inl comment ↦ (let taken = skipped_some (comment_at text) found comment in
            subst P (sym (ap (λ (pair : Piece × List ℕ). pair.0) taken.1))
            (inr (inl (is_enclosed (codes "<!--") (codes "-->") text found.1 taken.0))))
        | inr others ↦ elim (either_some (skipped (text_at inside text)) _ found others) [
          | inl octets ↦ (let taken = skipped_some (text_at inside text) found octets in
              subst P (sym (ap (λ (pair : Piece × List ℕ). pair.0) taken.1))
              (inr (inr (is_text inside text found.1 taken.0))))
          | inr tags ↦ elim (either_some (end_tag_at text) (start_tag_at text) found tags) [
            | inl end ↦ (let taken = is_end_tag text found end in subst P (sym taken.1) taken.2)
            | inr start ↦ (let taken = is_tag text found start in subst P (sym taken.3)
                (tag_piece inside text found.1 taken.0 taken.1 taken.2 taken.4))
          ]
        ]
      ]
    ]
