-- The refusal that is told is the first.
use Rattle.std.proofs.Common.{◌≡◌, List, [], ◌∷◌, ◌++◌, Option, Some, None, Ok, Err, refl, sym, ap, ◌∙◌, append-nil}
use Rattle.std.specs.Option.{option_or}
use Rattle.std.specs.List.{All}
use Rattle.std.proofs.lemmas.List.{append_assoc}
use Rattle.std.proofs.lemmas.List.Elements.{All-nil, All-cons, All-head, All-tail}
use Rattle.tag_text.specs.declared.tag.Tag.{Tag}
use Rattle.key_tables.specs.First.{first_of}
use Rattle.keyring_reader.specs.declared.fault.KeyringFault.{KeyringFault}
use Rattle.keyring_reader.specs.declared.keys.Wrapping.{Wrapping}
use Rattle.keyring_reader.specs.Chain.{unless}
use Rattle.keyring_reader.specs.Elements.{Element, elements_of}
use Rattle.keyring_reader.specs.Refusals.{causes, first_cause, element_fault, first_refusal, NoneRefused, IsFirstCause, IsFirstRefusal}
use Rattle.keyring_reader.specs.Contents.{Contents, contents_in, contents_of}

-- ---- the first of some causes

abbrev AreNone : List (Option KeyringFault) → Type 0
AreNone found = All (λ (cause : Option KeyringFault). cause ≡ None) found

pub first_is : (found : List (Option KeyringFault)) (why : KeyringFault) → first_cause found ≡ Some why
    → IsFirstCause found why
first_is [] why is = absurd cc
first_is (None ∷ found) why is =
    let rest : IsFirstCause found why = first_is found why is in
    record {
      passed = None ∷ rest.passed;
      later = rest.later;
      in_order = ap (λ (f : List (Option KeyringFault)). None ∷ f) rest.in_order;
      none_before = All-cons (λ (cause : Option KeyringFault). cause ≡ None) None rest.passed refl rest.none_before;
    }
first_is (Some own ∷ found) why is = record {
  passed = [];
  later = found;
  in_order = ap (λ (f : Option KeyringFault). f ∷ found) is;
  none_before = All-nil (λ (cause : Option KeyringFault). cause ≡ None);
}

first_after : (passed later : List (Option KeyringFault)) (why : KeyringFault) → AreNone passed
    → first_cause (passed ++ Some why ∷ later) ≡ Some why
first_after [] later why none = refl
first_after (None ∷ passed) later why none =
    first_after passed later why (All-tail (λ (cause : Option KeyringFault). cause ≡ None) None passed none)
first_after (Some own ∷ passed) later why none =
    let here : Some own ≡ None = All-head (λ (cause : Option KeyringFault). cause ≡ None) (Some own) passed none in
    absurd cc

pub is_first : (found : List (Option KeyringFault)) (why : KeyringFault) → IsFirstCause found why
    → first_cause found ≡ Some why
is_first found why is = ap first_cause is.in_order ∙ first_after is.passed is.later why is.none_before

none_holds : (found : List (Option KeyringFault)) → first_cause found ≡ None → AreNone found
none_holds [] is = All-nil (λ (cause : Option KeyringFault). cause ≡ None)
none_holds (None ∷ found) is =
    All-cons (λ (cause : Option KeyringFault). cause ≡ None) None found refl (none_holds found is)
none_holds (Some own ∷ found) is = absurd cc

holds_none : (found : List (Option KeyringFault)) → AreNone found → first_cause found ≡ None
holds_none [] none = refl
holds_none (None ∷ found) none =
    holds_none found (All-tail (λ (cause : Option KeyringFault). cause ≡ None) None found none)
holds_none (Some own ∷ found) none =
    let here : Some own ≡ None = All-head (λ (cause : Option KeyringFault). cause ≡ None) (Some own) found none in
    absurd cc

-- ---- the first of a list that fails a test

module _ {A B : Type 0} (test : List A → A → Option B) where
  -- none fails it, each after those before it
  abbrev NoneFails : List A → List A → Type 0
  NoneFails before xs = (front back : List A) (x : A) → xs ≡ front ++ x ∷ back → test (before ++ front) x ≡ None

  record FirstFails (before xs : List A) (why : B) : Type 0 where
    front : List A
    at : A
    back : List A
    parts : xs ≡ front ++ at ∷ back
    none : NoneFails before front
    fails : test (before ++ front) at ≡ Some why

  left_none : (here later : Option B) → option_or here later ≡ None → here ≡ None
  left_none None later is = refl
  left_none (Some b) later is = absurd cc

  right_none : (here later : Option B) → option_or here later ≡ None → later ≡ None
  right_none None later is = is
  right_none (Some b) later is = absurd cc

  none_at : (before front back : List A) (x : A) → first_of test before (front ++ x ∷ back) ≡ None
      → test (before ++ front) x ≡ None
  none_at before [] back x is =
      ap (λ (b : List A). test b x) (append-nil before)
      ∙ left_none (test before x) (first_of test (before ++ x ∷ []) back) is
  none_at before (y ∷ front) back x is =
      sym (ap (λ (b : List A). test b x) (append_assoc before (y ∷ []) front))
      ∙ none_at (before ++ y ∷ []) front back x
      (right_none (test before y) (first_of test (before ++ y ∷ []) (front ++ x ∷ back)) is)

  none_fails : (before xs : List A) → first_of test before xs ≡ None → NoneFails before xs
  none_fails before xs is = λ front back x parts.
      none_at before front back x (ap (first_of test before) (sym parts) ∙ is)

  -- the first of the list does not fail, and none after it
  first_right : (before xs : List A) (y : A) → NoneFails before (y ∷ xs) → test before y ≡ None
  first_right before xs y none =
      sym (ap (λ (b : List A). test b y) (append-nil before)) ∙ none [] xs y refl

  later_right : (before xs : List A) (y : A) → NoneFails before (y ∷ xs) → NoneFails (before ++ y ∷ []) xs
  later_right before xs y none = λ front back x parts.
      ap (λ (b : List A). test b x) (append_assoc before (y ∷ []) front)
      ∙ none (y ∷ front) back x (ap (λ (l : List A). y ∷ l) parts)

  all_right : (before xs : List A) → NoneFails before xs → first_of test before xs ≡ None
  all_right before [] none = refl
  all_right before (y ∷ xs) none =
      ap (λ (here : Option B). option_or here (first_of test (before ++ y ∷ []) xs)) (first_right before xs y none)
      ∙ all_right (before ++ y ∷ []) xs (later_right before xs y none)

  nothing_before : (before : List A) → NoneFails before []
  nothing_before before [] back x parts = absurd cc
  nothing_before before (z ∷ front) back x parts = absurd cc

  one_before : (before xs : List A) (y : A) → test before y ≡ None → NoneFails (before ++ y ∷ []) xs
      → NoneFails before (y ∷ xs)
  one_before before xs y here none [] back x parts =
      let same : x ≡ y = cc in
      ap (λ (b : List A). test b x) (append-nil before) ∙ ap (test before) same ∙ here
  one_before before xs y here none (z ∷ front) back x parts =
      let rest : xs ≡ front ++ x ∷ back = cc in
      let same : z ≡ y = cc in
      ap (λ (first : A). test (before ++ first ∷ front) x) same
      ∙ sym (ap (λ (b : List A). test b x) (append_assoc before (y ∷ []) front))
      ∙ none front back x rest

  found_at : (before xs : List A) (y : A) (why : B) (here : Option B) → test before y ≡ here
      → option_or here (first_of test (before ++ y ∷ []) xs) ≡ Some why
      → (first_of test (before ++ y ∷ []) xs ≡ Some why → FirstFails (before ++ y ∷ []) xs why)
      → FirstFails before (y ∷ xs) why
  found_at before xs y why (Some b) is found later = record {
    front = [];
    at = y;
    back = xs;
    parts = refl;
    none = nothing_before before;
    fails = ap (λ (l : List A). test l y) (append-nil before) ∙ is ∙ found;
  }
  found_at before xs y why None is found later =
      let rest : FirstFails (before ++ y ∷ []) xs why = later found in
      record {
        front = y ∷ rest.front;
        at = rest.at;
        back = rest.back;
        parts = ap (λ (l : List A). y ∷ l) rest.parts;
        none = one_before before rest.front y is rest.none;
        fails = sym (ap (λ (l : List A). test l rest.at) (append_assoc before (y ∷ []) rest.front)) ∙ rest.fails;
      }

  first_found : (before xs : List A) (why : B) → first_of test before xs ≡ Some why → FirstFails before xs why
  first_found before [] why is = absurd cc
  first_found before (y ∷ xs) why is =
      found_at before xs y why (test before y) refl is (first_found (before ++ y ∷ []) xs why)

  fails_at : (before front back : List A) (x : A) (why : B) → NoneFails before front
      → test (before ++ front) x ≡ Some why → first_of test before (front ++ x ∷ back) ≡ Some why
  fails_at before [] back x why none fails =
      ap (λ (here : Option B). option_or here (first_of test (before ++ x ∷ []) back))
      (sym (ap (λ (b : List A). test b x) (append-nil before)) ∙ fails)
  fails_at before (y ∷ front) back x why none fails =
      ap (λ (here : Option B). option_or here (first_of test (before ++ y ∷ []) (front ++ x ∷ back)))
      (first_right before front y none)
      ∙ fails_at (before ++ y ∷ []) front back x why (later_right before front y none)
      (ap (λ (b : List A). test b x) (append_assoc before (y ∷ []) front) ∙ fails)

-- ---- the elements of a document

refused_first : (under : Wrapping) (elements : List Element) (why : KeyringFault)
    → first_refusal under elements ≡ Some why → IsFirstRefusal under elements why
unfolding first_refusal
refused_first under elements why is =
    let found : FirstFails (element_fault under) [] elements why =
    first_found (element_fault under) [] elements why is in
    record {
      before = found.front;
      element = found.at;
      after = found.back;
      in_order = found.parts;
      none_before = λ before after element parts.
          none_holds (causes under before element) (found.none before after element parts);
      refused = first_is (causes under found.front found.at) why found.fails;
    }

first_refused : (under : Wrapping) (elements : List Element) (why : KeyringFault) → IsFirstRefusal under elements why
    → first_refusal under elements ≡ Some why
unfolding first_refusal
first_refused under elements why is =
    ap (first_of (element_fault under) []) is.in_order
    ∙ fails_at (element_fault under) [] is.before is.after is.element why
    (λ before after element parts.
    holds_none (causes under before element) (is.none_before before after element parts))
    (is_first (causes under is.before is.element) why is.refused)

none_refused : (under : Wrapping) (elements : List Element) → first_refusal under elements ≡ None
    → NoneRefused under elements
unfolding first_refusal
none_refused under elements is = λ before after element parts.
    none_holds (causes under before element)
    (none_fails (element_fault under) [] elements is before after element parts)

refused_none : (under : Wrapping) (elements : List Element) → NoneRefused under elements
    → first_refusal under elements ≡ None
unfolding first_refusal
refused_none under elements none =
    all_right (element_fault under) [] elements (λ before after element parts.
    holds_none (causes under before element) (none before after element parts))

-- ---- the contents

is_err : (first : Option KeyringFault) (all : Contents) (why : KeyringFault)
    → unless first (Ok all) ≡ Err why → first ≡ Some why
is_err None all why is = absurd cc
is_err (Some own) all why is = cc

is_ok : (first : Option KeyringFault) (all contents : Contents) → unless first (Ok all) ≡ Ok contents → first ≡ None
is_ok None all contents is = refl
is_ok (Some own) all contents is = absurd cc

pub told_first : (under : Wrapping) (tags : List Tag) (why : KeyringFault) → contents_of under tags ≡ Err why
    → IsFirstRefusal under (elements_of tags) why
unfolding contents_of
told_first under tags why is =
    refused_first under (elements_of tags) why
    (is_err (first_refusal under (elements_of tags)) (contents_in under (elements_of tags)) why is)

pub first_told : (under : Wrapping) (tags : List Tag) (why : KeyringFault)
    → IsFirstRefusal under (elements_of tags) why → contents_of under tags ≡ Err why
unfolding contents_of
first_told under tags why is =
    ap (λ (first : Option KeyringFault). unless first (Ok (contents_in under (elements_of tags))))
    (first_refused under (elements_of tags) why is)

pub none_told : (under : Wrapping) (tags : List Tag) (contents : Contents) → contents_of under tags ≡ Ok contents
    → NoneRefused under (elements_of tags)
unfolding contents_of
none_told under tags contents is =
    none_refused under (elements_of tags)
    (is_ok (first_refusal under (elements_of tags)) (contents_in under (elements_of tags)) contents is)

pub all_said : (under : Wrapping) (tags : List Tag) → NoneRefused under (elements_of tags)
    → contents_of under tags ≡ Ok (contents_in under (elements_of tags))
unfolding contents_of
all_said under tags none =
    ap (λ (first : Option KeyringFault). unless first (Ok (contents_in under (elements_of tags))))
    (refused_none under (elements_of tags) none)
