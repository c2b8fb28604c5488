-- What is read of a text leaves less of it.
use Rattle.std.proofs.Common.{◌≡◌, ℕ, zero, suc, ◌+◌, ◌<◌, ◌≤◌, Bool, true, false, cond, ◌⊎◌, inl, inr, List, [], ◌∷◌, ◌++◌, length, take, drop, codes, Option, Some, None, arith, ap, ◌∙◌, sym, refl, subst}
use Rattle.std.specs.Option.{option_map, option_map_or}
use Rattle.std.specs.List.{take_while, prefix_len, list_any, All}
use Rattle.std.proofs.lemmas.List.{length-append, length-drop, take-append-drop, append_assoc, append-nil}
use Rattle.std.proofs.lemmas.List.Folds.{length-prefix_len}
use Rattle.tag_text.specs.Octets.{is_blank, is_octet, is_name_octet, begins_name, drop_while, after_blanks, after_mark, after_first_mark, cut_at, name_at}
use Rattle.tag_text.specs.Values.{value_of, quoted_at, value_at, is_quote}
use Rattle.tag_text.specs.Pieces.{Piece, End, Skipped, ◌>>=◌, or_else, begins_blank, is_text_octet, attribute_at, with_first, attributes_within, attributes_at, tag_end_at, tag_of, tag_with, start_tag_at, end_tag_at, skipped, instruction_at, comment_at, text_at, piece_at}
use Rattle.tag_text.specs.Attributes.{are_distinct}
use Rattle.tag_text.specs.Pieces.{with_firsts}
use Rattle.tag_text.proofs.OctetLemmas.{after_mark_splits, cut_is, has_first_mark}

pub bind_some : {A B : Type 0} (o : Option A) (f : A → Option B) (y : B) → (o >>= f) ≡ Some y → (x : A) × (o ≡ Some x)
    × (f x ≡ Some y)
bind_some None f y found = cc found
bind_some (Some x) f y found = (x, refl, found)

pub test_some : {A : Type 0} (b : Bool) (o : Option A) (y : A) → cond b o None ≡ Some y → (b ≡ true) × (o ≡ Some y)
test_some true o y found = (refl, found)
test_some false o y found = cc found

pub map_some : {A B : Type 0} (f : A → B) (o : Option A) (y : B) → option_map f o ≡ Some y → (x : A) × (o ≡ Some x)
    × (f x ≡ y)
map_some f None y found = cc found
map_some f (Some x) y found = (x, refl, cc found)

pub while_splits : (test : ℕ → Bool) (text : List ℕ) → text ≡ take_while test text ++ drop_while test text
while_splits test text =
    sym (take-append-drop (prefix_len test text) text)
    ∙ ap (λ (n : ℕ). take (prefix_len test text) text ++ drop n text) (sym (length-prefix_len test text))

pub blanks_split : (text : List ℕ) → text ≡ take_while is_blank text ++ after_blanks text
unfolding after_blanks
blanks_split text = while_splits is_blank text

pub after_blanks_less : (text : List ℕ) → length (after_blanks text) ≤ length text
after_blanks_less text =
    omega (arith, ap length (blanks_split text), length-append (take_while is_blank text) (after_blanks text))

pub after_mark_less : (mark text after : List ℕ) → after_mark mark text ≡ Some after
    → length text ≡ length mark + length after
after_mark_less mark text after found = ap length (after_mark_splits mark text after found) ∙ length-append mark after

-- what is known of a name at the front
pub record HasName (text : List ℕ) (name : List ℕ × List ℕ) : Type 0 where
  pub begins : begins_name text ≡ true
  pub octets : name.0 ≡ take_while is_name_octet text
  pub rest : name.1 ≡ drop_while is_name_octet text
  pub splits : text ≡ name.0 ++ name.1
  pub less : length name.1 ≤ length text

pub has_name : (text : List ℕ) (name : List ℕ × List ℕ) → name_at text ≡ Some name → HasName text name
unfolding name_at
has_name text name found =
    let here : List ℕ × List ℕ = (take_while is_name_octet text, drop_while is_name_octet text) in
    let parts = test_some (begins_name text) (Some here) name found in
    let same : here ≡ name = cc parts.1 in
    let octets : name.0 ≡ take_while is_name_octet text = sym (ap (λ (pair : List ℕ × List ℕ). pair.0) same) in
    let rest : name.1 ≡ drop_while is_name_octet text = sym (ap (λ (pair : List ℕ × List ℕ). pair.1) same) in
    let whole : text ≡ name.0 ++ name.1 = while_splits is_name_octet text ∙ cc (octets, rest) in
    record {
      begins = parts.0;
      octets = octets;
      rest = rest;
      splits = whole;
      less = omega (arith, ap length whole, length-append name.0 name.1);
    }

-- what is known of quotes at the front
pub record HasQuotes (text : List ℕ) (quoted : List ℕ × List ℕ) : Type 0 where
  pub quote : ℕ
  pub is : is_quote quote ≡ true
  pub opens : list_any (is_octet 60) quoted.0 ≡ false
  pub splits : text ≡ quote ∷ quoted.0 ++ quote ∷ quoted.1
  pub lacks : All (λ other. is_octet quote other ≡ false) quoted.0
  pub less : length quoted.1 < length text

open_test : (b : Bool) (x y : List ℕ × List ℕ) → cond b None (Some x) ≡ Some y → (b ≡ false) × (x ≡ y)
open_test true x y found = cc found
open_test false x y found = (refl, cc found)

pub has_quotes : (text : List ℕ) (quoted : List ℕ × List ℕ) → quoted_at text ≡ Some quoted → HasQuotes text quoted
unfolding quoted_at
has_quotes [] quoted found = cc found
has_quotes (quote ∷ text) quoted found =
    let parts = test_some (is_quote quote) (cut_at quote text >>= (λ (parts : List ℕ × List ℕ). cond
    (list_any (is_octet 60) parts.0) None (Some parts))) quoted found in
    let taken = bind_some (cut_at quote text) (λ (parts : List ℕ × List ℕ). cond (list_any (is_octet 60) parts.0) None
    (Some parts)) quoted parts.1 in
    let closed = open_test (list_any (is_octet 60) taken.0.0) taken.0 quoted taken.2 in
    let cut = cut_is quote text taken.0.0 taken.0.1 (sym taken.1) in
    let P : List ℕ × List ℕ → Type 0 = λ quoted'. HasQuotes (quote ∷ text) quoted' in
    subst P closed.1 (record {
      quote = quote;
      is = parts.0;
      opens = closed.0;
      splits = ap (λ (others : List ℕ). quote ∷ others) cut.splits;
      lacks = cut.lacks;
      less = omega (arith, cut.less);
    })

pub record HasValue (text : List ℕ) (found : List ℕ × List ℕ) : Type 0 where
  pub raw : List ℕ
  pub quoted : HasQuotes text (raw, found.1)
  pub value : value_of raw ≡ Some found.0

pub has_value : (text : List ℕ) (value : List ℕ × List ℕ) → value_at text ≡ Some value → HasValue text value
unfolding value_at
has_value text value found =
    let f : List ℕ × List ℕ → Option (List ℕ × List ℕ) =
    λ quoted. option_map (λ (octets : List ℕ). (octets, quoted.1)) (value_of quoted.0) in
    let quoted = bind_some (quoted_at text) f value found in
    let octets = map_some (λ (octets : List ℕ). (octets, quoted.0.1)) (value_of quoted.0.0) value quoted.2 in
    let P : List ℕ × List ℕ → Type 0 = λ value'. HasValue text value' in
    subst P octets.2 (record {
      raw = quoted.0.0;
      quoted = has_quotes text quoted.0 quoted.1;
      value = octets.1;
    })

-- what is known of an attribute at the front
pub record HasAttribute (text : List ℕ) (attribute : (List ℕ × List ℕ) × List ℕ) : Type 0 where
  pub begins : begins_blank text ≡ true
  pub after_name : List ℕ
  pub name : HasName (after_blanks text) (attribute.0.0, after_name)
  pub after_equals : List ℕ
  pub equals : after_mark (codes "=") (after_blanks after_name) ≡ Some after_equals
  pub value : HasValue (after_blanks after_equals) (attribute.0.1, attribute.1)

pub has_attribute : (text : List ℕ) (attribute : (List ℕ × List ℕ) × List ℕ) → attribute_at text ≡ Some attribute
    → HasAttribute text attribute
unfolding attribute_at
has_attribute text attribute found =
    let last : List ℕ × List ℕ → List ℕ × List ℕ → Option ((List ℕ × List ℕ) × List ℕ) =
    λ name value. Some ((name.0, value.0), value.1) in
    let third : List ℕ × List ℕ → List ℕ → Option ((List ℕ × List ℕ) × List ℕ) =
    λ name rest. value_at (after_blanks rest) >>= last name in
    let second : List ℕ × List ℕ → Option ((List ℕ × List ℕ) × List ℕ) =
    λ name. after_mark (codes "=") (after_blanks name.1) >>= third name in
    let blank = test_some (begins_blank text) (name_at (after_blanks text) >>= second) attribute found in
    let name = bind_some (name_at (after_blanks text)) second attribute blank.1 in
    let equals = bind_some (after_mark (codes "=") (after_blanks name.0.1)) (third name.0) attribute name.2 in
    let value = bind_some (value_at (after_blanks equals.0)) (last name.0) attribute equals.2 in
    let P : (List ℕ × List ℕ) × List ℕ → Type 0 = λ attribute'. HasAttribute text attribute' in
    let same : last name.0 value.0 ≡ Some attribute = value.2 in
    let whole : (List ℕ × List ℕ) × List ℕ = ((name.0.0, value.0.0), value.0.1) in
    let same_whole : whole ≡ attribute = cc same in
    subst P same_whole (record {
      begins = blank.0;
      after_name = name.0.1;
      name = has_name (after_blanks text) name.0 name.1;
      after_equals = equals.0;
      equals = equals.1;
      value = has_value (after_blanks equals.0) value.0 value.1;
    })

pub attribute_less : (text : List ℕ) (attribute : (List ℕ × List ℕ) × List ℕ) → attribute_at text ≡ Some attribute
    → length attribute.1 < length text
attribute_less text attribute found =
    let has = has_attribute text attribute found in
    omega (
      arith,
      after_blanks_less text,
      has.name.less,
      after_blanks_less has.after_name,
      after_mark_less (codes "=") (after_blanks has.after_name) has.after_equals has.equals,
      after_blanks_less has.after_equals,
      has.value.quoted.less,
    )

nothing_has_none : attribute_at [] ≡ None
unfolding attribute_at
nothing_has_none = refl

-- a greater bound than the octets that there are changes nothing
within_nothing : (n : ℕ) (text : List ℕ) → length text ≤ 0 → attributes_within n text ≡ ([], text)
within_nothing zero text small = refl
within_nothing (suc n) [] small = rw nothing_has_none refl
within_nothing (suc n) (octet ∷ text) small = absurd (omega (arith, small))

within_case : (m n : ℕ) (text : List ℕ) (o : Option ((List ℕ × List ℕ) × List ℕ))
    → ((found : (List ℕ × List ℕ) × List ℕ) → o ≡ Some found
    → attributes_within m found.1 ≡ attributes_within n found.1)
    → option_map_or (λ found. with_first found.0 (attributes_within m found.1)) o ([], text)
    ≡ option_map_or (λ found. with_first found.0 (attributes_within n found.1)) o ([], text)
within_case m n text None same = refl
within_case m n text (Some found) same =
    ap (λ (more : List (List ℕ × List ℕ) × List ℕ). with_first found.0 more) (same found refl)

within_enough : (m n : ℕ) (text : List ℕ) → length text ≤ m → length text ≤ n
    → attributes_within m text ≡ attributes_within n text
within_enough zero n text small large = sym (within_nothing n text small)
within_enough (suc m) zero text small large = within_nothing (suc m) text large
within_enough (suc m) (suc n) text small large =
    within_case m n text (attribute_at text)
    (λ found is. within_enough m n found.1 (omega (arith, small, attribute_less text found is))
    (omega (arith, large, attribute_less text found is)))

pub no_attribute : (text : List ℕ) → attribute_at text ≡ None → attributes_at text ≡ ([], text)
unfolding attributes_at
no_attribute [] none = refl
no_attribute (octet ∷ text) none = rw none refl

pub one_attribute : (text : List ℕ) (attribute : (List ℕ × List ℕ) × List ℕ) → attribute_at text ≡ Some attribute
    → attributes_at text ≡ with_first attribute.0 (attributes_at attribute.1)
unfolding attributes_at
one_attribute [] attribute found = cc (nothing_has_none, found)
one_attribute (octet ∷ text) attribute found =
    rw found (ap (λ (more : List (List ℕ × List ℕ) × List ℕ). with_first attribute.0 more)
    (within_enough (length text) (length attribute.1) attribute.1
    (omega (arith, attribute_less (octet ∷ text) attribute found)) (omega arith)))

-- the attributes so far, one more, and those of what is left
pub more_attributes : (before after : List (List ℕ × List ℕ)) (text left : List ℕ) (name value : List ℕ)
    (whole : List (List ℕ × List ℕ) × List ℕ)
    → Some ((name, value), left) ≡ attribute_at text → after ≡ before ++ (name, value) ∷ []
    → with_firsts before (attributes_at text) ≡ whole
    → with_firsts after (attributes_at left) ≡ whole
more_attributes before after text left name value whole found put all =
    let one = one_attribute text ((name, value), left) (sym found) in
    let more : List (List ℕ × List ℕ) × List ℕ = attributes_at left in
    ap (λ (first : List (List ℕ × List ℕ)). with_firsts first more) put
    ∙ ap (λ (attributes : List (List ℕ × List ℕ)). (attributes, more.1))
    (append_assoc before ((name, value) ∷ []) more.0)
    ∙ ap (λ (found : List (List ℕ × List ℕ) × List ℕ). with_firsts before found) (sym one) ∙ all

-- the attributes so far are all, where there is no more
pub all_attributes : (attributes : List (List ℕ × List ℕ)) (text : List ℕ) (whole : List (List ℕ × List ℕ) × List ℕ)
    → None ≡ attribute_at text → with_firsts attributes (attributes_at text) ≡ whole → (attributes, text) ≡ whole
all_attributes attributes text whole none all =
    ap (λ (first : List (List ℕ × List ℕ)). (first, text)) (sym (append-nil attributes))
    ∙ ap (λ (found : List (List ℕ × List ℕ) × List ℕ). with_firsts attributes found)
    (sym (no_attribute text (sym none))) ∙ all

pub either_some : {A : Type 0} (o other : Option A) (y : A) → or_else o other ≡ Some y → (o ≡ Some y) ⊎ (other ≡ Some y)
either_some None other y found = inr found
either_some (Some x) other y found = inl found

pub skipped_some : (o : Option (List ℕ)) (found : Piece × List ℕ) → skipped o ≡ Some found → (o ≡ Some found.1)
    × (found ≡ (Skipped, found.1))
skipped_some None found is = cc is
skipped_some (Some rest) found is =
    let whole : Piece × List ℕ = (Skipped, rest) in
    let same : whole ≡ found = cc is in
    let rest_is : rest ≡ found.1 = ap (λ (pair : Piece × List ℕ). pair.1) same in
    (ap Some rest_is, sym same ∙ ap (λ (others : List ℕ). (Skipped, others)) rest_is)

marked_less : (opening closing text after : List ℕ) → 0 < length opening
    → (after_mark opening text >>= after_first_mark closing) ≡ Some after → length after < length text
marked_less opening closing text after some found =
    let opened = bind_some (after_mark opening text) (after_first_mark closing) after found in
    let closed = has_first_mark closing opened.0 after opened.2 in
    omega (
      arith,
      some,
      after_mark_less opening text opened.0 opened.1,
      ap length closed.splits,
      length-append
          closed.front (closing ++ after),
      length-append closing after,
    )

instruction_less : (text after : List ℕ) → instruction_at text ≡ Some after → length after < length text
unfolding instruction_at
instruction_less text after found = marked_less (codes "<?") (codes "?>") text after (omega arith) found

comment_less : (text after : List ℕ) → comment_at text ≡ Some after → length after < length text
unfolding comment_at
comment_less text after found = marked_less (codes "<!--") (codes "-->") text after (omega arith) found

while_less : (test : ℕ → Bool) (octet : ℕ) (text : List ℕ) → test octet ≡ true
    → length (drop_while test (octet ∷ text)) < length (octet ∷ text)
while_less test octet text passes =
    let some : prefix_len test (octet ∷ text) ≡ 1 + prefix_len test text =
    ap (λ (b : Bool). cond b (1 + prefix_len test text) 0) passes in
    omega (
      arith,
      some,
      length-prefix_len test (octet ∷ text),
      length-drop (length (take_while test (octet ∷ text)))
          (octet ∷ text),
    )

text_less : (inside : Bool) (text after : List ℕ) → text_at inside text ≡ Some after → length after < length text
unfolding text_at after_blanks
text_less true [] after found = cc found
text_less true (octet ∷ text) after found =
    let parts = test_some (is_text_octet octet) (Some (drop_while is_text_octet (octet ∷ text))) after found in
    omega (
      arith,
      while_less is_text_octet octet text parts.0,
      (let same : drop_while is_text_octet (octet ∷ text) ≡ after = cc parts.1 in ap length same),
    )
text_less false [] after found = cc found
text_less false (octet ∷ text) after found =
    let parts = test_some (is_blank octet) (Some (drop_while is_blank (octet ∷ text))) after found in
    omega (
      arith,
      while_less is_blank octet text parts.0,
      (let same : drop_while is_blank (octet ∷ text)
          ≡ after = cc parts.1 in ap length same),
    )

attributes_case_less : (n : ℕ) (text : List ℕ) (o : Option ((List ℕ × List ℕ) × List ℕ))
    → ((found : (List ℕ × List ℕ) × List ℕ) → o ≡ Some found → length (attributes_within n found.1).1 ≤ length text)
    → length (option_map_or (λ found. with_first found.0 (attributes_within n found.1)) o ([], text)).1 ≤ length text
attributes_case_less n text None less = omega arith
attributes_case_less n text (Some found) less = less found refl

attributes_within_less : (n : ℕ) (text : List ℕ) → length (attributes_within n text).1 ≤ length text
attributes_within_less zero text = omega arith
attributes_within_less (suc n) text =
    attributes_case_less n text (attribute_at text) (λ found is. omega
    (arith, attributes_within_less n found.1, attribute_less text found is))

attributes_less : (text : List ℕ) → length (attributes_at text).1 ≤ length text
unfolding attributes_at
attributes_less text = attributes_within_less (length text) text

end_side : (b : Bool) (mark text : List ℕ) (end : Bool × List ℕ)
    → option_map (λ after. (b, after)) (after_mark mark text) ≡ Some end
    → (end.0 ≡ b) × (after_mark mark text ≡ Some end.1)
end_side b mark text end found =
    let after = map_some (λ (after : List ℕ). (b, after)) (after_mark mark text) end found in
    let whole : Bool × List ℕ = (b, after.0) in
    let same : whole ≡ end = after.2 in
    let rest : after.0 ≡ end.1 = ap (λ (pair : Bool × List ℕ). pair.1) same in
    (sym (ap (λ (pair : Bool × List ℕ). pair.0) same), after.1 ∙ ap Some rest)

-- the end of a tag
pub record HasTagEnd (text : List ℕ) (end : Bool × List ℕ) : Type 0 where
  pub is : ((end.0 ≡ true) × (after_mark (codes "/>") (after_blanks text) ≡ Some end.1))
      ⊎ ((end.0 ≡ false) × (after_mark (codes ">") (after_blanks text) ≡ Some end.1))
  pub less : length end.1 < length text

pub has_tag_end : (text : List ℕ) (end : Bool × List ℕ) → tag_end_at text ≡ Some end → HasTagEnd text end
unfolding tag_end_at
has_tag_end text end found =
    elim (either_some (option_map (λ (after : List ℕ). (true, after)) (after_mark (codes "/>") (after_blanks text)))
    (option_map (λ (after : List ℕ). (false, after)) (after_mark (codes ">") (after_blanks text))) end found) [
      | inl slash ↦ (let side = end_side true (codes "/>") (after_blanks text) end slash in
          record {
            is = inl side;
            less = omega (arith, after_blanks_less text, after_mark_less (codes "/>") (after_blanks text) end.1 side.1);
          })
      | inr plain ↦ (let side = end_side false (codes ">") (after_blanks text) end plain in
          record {
            is = inr side;
            less = omega (arith, after_blanks_less text, after_mark_less (codes ">") (after_blanks text) end.1 side.1);
          })
    ]

tag_with_less : (name : List ℕ) (attributes : List (List ℕ × List ℕ)) (rest : List ℕ) (found : Piece × List ℕ)
    → tag_with name attributes rest ≡ Some found
    → length found.1 < length rest
tag_with_less name attributes rest found is =
    let last : Bool × List ℕ → Option (Piece × List ℕ) =
    λ end. cond (are_distinct attributes) (Some (tag_of end.0 name attributes, end.1)) None in
    let end = bind_some (tag_end_at rest) last found is in
    let tag : Piece × List ℕ = (tag_of end.0.0 name attributes, end.0.1) in
    let parts = test_some (are_distinct attributes) (Some tag) found end.2 in
    let same : tag ≡ found = cc parts.1 in
    omega (arith, (has_tag_end rest end.0 end.1).less, ap (λ (pair : Piece × List ℕ). length pair.1) same)

start_tag_less : (text : List ℕ) (found : Piece × List ℕ) → start_tag_at text ≡ Some found
    → length found.1 < length text
unfolding start_tag_at
start_tag_less text found is =
    let last : List ℕ × List ℕ → Option (Piece × List ℕ) =
    λ name. tag_with name.0 (attributes_at name.1).0 (attributes_at name.1).1 in
    let opened = bind_some (after_mark (codes "<") text) (λ (opened : List ℕ). name_at opened >>= last) found is in
    let name = bind_some (name_at opened.0) last found opened.2 in
    omega (
      arith,
      after_mark_less (codes "<") text opened.0 opened.1,
      (has_name opened.0 name.0 name.1).less,
      attributes_less name.0.1,
      tag_with_less name.0.0 (attributes_at name.0.1).0 (attributes_at name.0.1).1 found name.2,
    )

end_tag_less : (text : List ℕ) (found : Piece × List ℕ) → end_tag_at text ≡ Some found → length found.1 < length text
unfolding end_tag_at
end_tag_less text found is =
    let third : List ℕ × List ℕ → List ℕ → Option (Piece × List ℕ) = λ name after. Some (End name.0, after) in
    let second : List ℕ × List ℕ → Option (Piece × List ℕ) =
    λ name. after_mark (codes ">") (after_blanks name.1) >>= third name in
    let opened = bind_some (after_mark (codes "</") text) (λ (opened : List ℕ). name_at opened >>= second) found is in
    let name = bind_some (name_at opened.0) second found opened.2 in
    let after = bind_some (after_mark (codes ">") (after_blanks name.0.1)) (third name.0) found name.2 in
    let tag : Piece × List ℕ = (End name.0.0, after.0) in
    let same : tag ≡ found = cc after.2 in
    omega (
      arith,
      after_mark_less (codes "</") text opened.0 opened.1,
      (has_name opened.0 name.0 name.1).less,
      after_blanks_less name.0.1,
      after_mark_less (codes ">") (after_blanks name.0.1) after.0 after.1,
      ap (λ (pair : Piece × List ℕ). length pair.1) same,
    )

pub piece_less : (inside : Bool) (text : List ℕ) (found : Piece × List ℕ) → piece_at inside text ≡ Some found
    → length found.1 < length text
unfolding piece_at
piece_less inside text found is =
    elim (either_some (skipped (instruction_at text)) _ found is) [
      | inl instruction ↦ instruction_less text found.1 (skipped_some (instruction_at text) found instruction).0
      | inr others ↦ elim (either_some (skipped (comment_at text)) _ found others) [
        | inl comment ↦ comment_less text found.1 (skipped_some (comment_at text) found comment).0
        | inr others ↦ elim (either_some (skipped (text_at inside text)) _ found others) [
          | inl octets ↦ text_less inside text found.1 (skipped_some (text_at inside text) found octets).0
          | inr tags ↦ elim (either_some (end_tag_at text) (start_tag_at text) found tags) [
            | inl end ↦ end_tag_less text found end
            | inr start ↦ start_tag_less text found start
          ]
        ]
      ]
    ]
