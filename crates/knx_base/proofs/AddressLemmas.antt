-- The value of an address text by its pieces is what the forms of the text say.
use Rattle.std.proofs.Common.{◌≡◌, ℕ, ◌/◌, ◌%◌, ◌^◌, ◌<◌, ◌≤◌, List, [], ◌∷◌, ◌++◌, Option, Some, None, inl, inr, refl, sym, ap, ◌∙◌, arith}
use Rattle.std.specs.Fmt.{decimal}
use Rattle.knx_base.specs.Decimal.{decimal_up_to}
use Rattle.knx_base.specs.Address.{IsIndividual, IsGroup, parts_text, pieces_of, individual_value, individual_parts, individual_of, three_level_value, two_level_value, group_parts, group_of, individual_text, group_text}
use Rattle.knx_base.proofs.DecimalLemmas.{decimal_up_to-is, decimal_up_to-decimal}
use Rattle.knx_base.proofs.Pieces.{joined, joined-pieces_of, some_piece, pieces_of-lacking, pieces_of-append, decimal_lacks, decimal_up_to-pieces}

-- ---- what a text in pieces is

pub individual_of-cut : (text area rest line device : List ℕ) → pieces_of 46 text ≡ area ∷ pieces_of 46 rest
    → pieces_of 46 rest ≡ line ∷ pieces_of 46 device → individual_of text
    ≡ individual_value (decimal_up_to 15 area) (decimal_up_to 15 line) (decimal_up_to 255 device)
unfolding individual_of
individual_of-cut text area rest line device first second =
    ap individual_parts (first ∙ ap (λ (ps : List (List ℕ)). area ∷ ps) second) ∙ last (pieces_of 46 device) refl
  where
    none : (a l : Option ℕ) → individual_value a l None ≡ None
    none None l = refl
    none (Some a) None = refl
    none (Some a) (Some l) = refl

    last : (pieces : List (List ℕ)) → pieces_of 46 device ≡ pieces
        → individual_parts (area ∷ line ∷ pieces) ≡ individual_value (decimal_up_to 15 area) (decimal_up_to 15 line)
        (decimal_up_to 255 device)
    last [] is = absurd (some_piece 46 device is)
    last (piece ∷ []) is =
        let same : piece ≡ device = sym (ap (joined 46) is) ∙ joined-pieces_of 46 device in rw same refl
    last (piece ∷ next ∷ pieces) is = sym (rw (decimal_up_to-pieces 46 255 device piece next pieces (omega arith)
        (omega arith) is) (none (decimal_up_to 15 area) (decimal_up_to 15 line)))

pub individual_of-one : (text : List ℕ) → pieces_of 46 text ≡ text ∷ [] → individual_of text ≡ None
unfolding individual_of
individual_of-one text is = rw is refl

pub individual_of-two : (text area rest : List ℕ) → pieces_of 46 text ≡ area ∷ pieces_of 46 rest
    → pieces_of 46 rest ≡ rest ∷ [] → individual_of text ≡ None
unfolding individual_of
individual_of-two text area rest first second = rw (first, second) refl

pub group_of-one : (text : List ℕ) → pieces_of 47 text ≡ text ∷ [] → group_of text ≡ decimal_up_to 65535 text
unfolding group_of
group_of-one text is = rw is refl

pub group_of-two : (text main sub : List ℕ) → pieces_of 47 text ≡ main ∷ pieces_of 47 sub → pieces_of 47 sub ≡ sub ∷ []
    → group_of text ≡ two_level_value (decimal_up_to 31 main) (decimal_up_to 2047 sub)
unfolding group_of
group_of-two text main sub first second = rw (first, second) refl

pub group_of-three : (text main rest middle sub : List ℕ) → pieces_of 47 text ≡ main ∷ pieces_of 47 rest
    → pieces_of 47 rest ≡ middle ∷ pieces_of 47 sub → group_of text
    ≡ three_level_value (decimal_up_to 31 main) (decimal_up_to 7 middle) (decimal_up_to 255 sub)
unfolding group_of
group_of-three text main rest middle sub first second =
    ap group_parts (first ∙ ap (λ (ps : List (List ℕ)). main ∷ ps) second) ∙ last (pieces_of 47 sub) refl
  where
    none : (m i : Option ℕ) → three_level_value m i None ≡ None
    none None i = refl
    none (Some m) None = refl
    none (Some m) (Some i) = refl

    last : (pieces : List (List ℕ)) → pieces_of 47 sub ≡ pieces
        → group_parts (main ∷ middle ∷ pieces) ≡ three_level_value (decimal_up_to 31 main) (decimal_up_to 7 middle)
        (decimal_up_to 255 sub)
    last [] is = absurd (some_piece 47 sub is)
    last (piece ∷ []) is = let same : piece ≡ sub = sym (ap (joined 47) is) ∙ joined-pieces_of 47 sub in rw same refl
    last (piece ∷ next ∷ pieces) is = sym (rw (decimal_up_to-pieces 47 255 sub piece next pieces (omega arith)
        (omega arith) is) (none (decimal_up_to 31 main) (decimal_up_to 7 middle)))

-- ---- the forms

three_pieces : (separator : ℕ) (text a b d : List ℕ) → pieces_of separator text ≡ a ∷ b ∷ d ∷ [] → text ≡ a ++ separator
    ∷ (b ++ separator ∷ d)
three_pieces separator text a b d is = sym (joined-pieces_of separator text) ∙ ap (joined separator) is

spelled_three : (separator a b d : ℕ) → separator < 48 → a < 2 ^ 64 → b < 2 ^ 64 → d < 2 ^ 64
    → pieces_of separator (parts_text separator a b d) ≡ decimal a ∷ decimal b ∷ decimal d ∷ []
unfolding parts_text
spelled_three separator a b d low ha hb hd =
    pieces_of-append separator (decimal a) (decimal b ++ separator ∷ decimal d) (decimal_lacks separator a low ha)
    ∙ ap (λ (ps : List (List ℕ)). decimal a ∷ ps) (pieces_of-append separator (decimal b) (decimal d)
    (decimal_lacks separator b low hb)
    ∙ ap (λ (ps : List (List ℕ)). decimal b ∷ ps) (pieces_of-lacking separator (decimal d)
    (decimal_lacks separator d low hd)))

read_back : (most n : ℕ) → n ≤ most → most < 2 ^ 64 → decimal_up_to most (decimal n) ≡ Some n
read_back most n within wide = decimal_up_to-decimal most (decimal n) n (omega arith) within refl

pub individual_of-is : (text : List ℕ) (value : ℕ) → individual_of text ≡ Some value → IsIndividual text value
unfolding individual_of parts_text
individual_of-is text value e = by (pieces_of 46 text) refl e
  where
    parts : (a l d : Option ℕ) (area line device : List ℕ) → decimal_up_to 15 area ≡ a → decimal_up_to 15 line ≡ l
        → decimal_up_to 255 device ≡ d → text ≡ area ++ 46 ∷ (line ++ 46 ∷ device) → individual_value a l d ≡ Some value
        → IsIndividual text value
    parts None l d area line device ea el ed spelled is = absurd cc
    parts (Some a) None d area line device ea el ed spelled is = absurd cc
    parts (Some a) (Some l) None area line device ea el ed spelled is = absurd cc
    parts (Some a) (Some l) (Some d) area line device ea el ed spelled is =
        let fa = decimal_up_to-is 15 area a ea in
        let fl = decimal_up_to-is 15 line l el in
        let fd = decimal_up_to-is 255 device d ed in (
          a,
          l,
          d,
          record {
            area_bound = fa.0;
            line_bound = fl.0;
            device_bound = fd.0;
            spelled = spelled ∙ rw (fa.1, fl.1, fd.1) refl;
            value_is = cc;
          },
        )

    by : (pieces : List (List ℕ)) → pieces_of 46 text ≡ pieces → individual_parts pieces ≡ Some value
        → IsIndividual text value
    by [] is found = absurd cc
    by (a ∷ []) is found = absurd cc
    by (a ∷ b ∷ []) is found = absurd cc
    by (area ∷ line ∷ device ∷ []) is found = parts (decimal_up_to 15 area) (decimal_up_to 15 line)
        (decimal_up_to 255 device) area line device refl refl refl (three_pieces 46 text area line device is) found
    by (a ∷ b ∷ d ∷ e ∷ pieces) is found = absurd cc

pub individual_of-text : (text : List ℕ) (value : ℕ) → IsIndividual text value → individual_of text ≡ Some value
unfolding individual_of
individual_of-text text value (area, line, device, is) =
    let pieces : pieces_of 46 text ≡ decimal area ∷ decimal line ∷ decimal device ∷ [] = ap (pieces_of 46) is.spelled
    ∙ spelled_three 46 area line device (omega arith) (omega (arith, is.area_bound)) (omega (arith, is.line_bound))
    (omega (arith, is.device_bound)) in
    ap individual_parts pieces ∙ rw (
      read_back 15 area is.area_bound (omega arith),
      read_back 15 line is.line_bound
          (omega arith),
      read_back 255 device is.device_bound (omega arith),
    ) (ap (λ (n : ℕ). Some n) (sym is.value_is))

group_three : (text main middle sub : List ℕ) (m i s : Option ℕ) (value : ℕ) → decimal_up_to 31 main ≡ m
    → decimal_up_to 7 middle ≡ i → decimal_up_to 255 sub ≡ s → text ≡ main ++ 47 ∷ (middle ++ 47 ∷ sub)
    → three_level_value m i s ≡ Some value → IsGroup text value
unfolding parts_text
group_three text main middle sub None i s value em ei es spelled is = absurd cc
group_three text main middle sub (Some m) None s value em ei es spelled is = absurd cc
group_three text main middle sub (Some m) (Some i) None value em ei es spelled is = absurd cc
group_three text main middle sub (Some m) (Some i) (Some s) value em ei es spelled is =
    let fm = decimal_up_to-is 31 main m em in
    let fi = decimal_up_to-is 7 middle i ei in
    let fs = decimal_up_to-is 255 sub s es in
    inl (
      m,
      i,
      s,
      record {
        main_bound = fm.0;
        middle_bound = fi.0;
        sub_bound = fs.0;
        spelled = spelled ∙ rw (fm.1, fi.1, fs.1) refl;
        value_is = cc;
      },
    )

group_two : (text main sub : List ℕ) (m s : Option ℕ) (value : ℕ) → decimal_up_to 31 main ≡ m
    → decimal_up_to 2047 sub ≡ s → text ≡ main ++ 47 ∷ sub → two_level_value m s ≡ Some value → IsGroup text value
group_two text main sub None s value em es spelled is = absurd cc
group_two text main sub (Some m) None value em es spelled is = absurd cc
group_two text main sub (Some m) (Some s) value em es spelled is =
    let fm = decimal_up_to-is 31 main m em in
    let fs = decimal_up_to-is 2047 sub s es in
    inr (inl (
      m,
      s,
      record {
        main_bound = fm.0;
        sub_bound = fs.0;
        spelled = spelled ∙ rw (fm.1, fs.1) refl;
        value_is = cc;
      },
    ))

pub group_of-is : (text : List ℕ) (value : ℕ) → group_of text ≡ Some value → IsGroup text value
unfolding group_of
group_of-is text value e = by (pieces_of 47 text) refl e
  where
    by : (pieces : List (List ℕ)) → pieces_of 47 text ≡ pieces → group_parts pieces ≡ Some value → IsGroup text value
    by [] is found = absurd cc
    by (piece ∷ []) is found = let whole : piece ≡ text = sym (ap (joined 47) is) ∙ joined-pieces_of 47 text in
        inr (inr (decimal_up_to-is 65535 text value (ap (decimal_up_to 65535) (sym whole) ∙ found)))
    by (main ∷ sub ∷ []) is found = group_two text main sub (decimal_up_to 31 main) (decimal_up_to 2047 sub) value refl
        refl (sym (joined-pieces_of 47 text) ∙ ap (joined 47) is) found
    by (main ∷ middle ∷ sub ∷ []) is found = group_three text main middle sub (decimal_up_to 31 main)
        (decimal_up_to 7 middle) (decimal_up_to 255 sub) value refl refl refl (three_pieces 47 text main middle sub is)
        found
    by (a ∷ b ∷ d ∷ e ∷ pieces) is found = absurd cc

pub group_of-text : (text : List ℕ) (value : ℕ) → IsGroup text value → group_of text ≡ Some value
unfolding group_of
group_of-text text value (inl (main, middle, sub, is)) =
    let pieces : pieces_of 47 text ≡ decimal main ∷ decimal middle ∷ decimal sub ∷ [] = ap (pieces_of 47) is.spelled
    ∙ spelled_three 47 main middle sub (omega arith) (omega (arith, is.main_bound)) (omega (arith, is.middle_bound))
    (omega (arith, is.sub_bound)) in
    ap group_parts pieces ∙ rw (
      read_back 31 main is.main_bound (omega arith),
      read_back 7 middle is.middle_bound
          (omega arith),
      read_back 255 sub is.sub_bound (omega arith),
    ) (ap (λ (n : ℕ). Some n) (sym is.value_is))
group_of-text text value (inr (inl (main, sub, is))) =
    let pieces : pieces_of 47 text ≡ decimal main ∷ decimal sub ∷ [] = ap (pieces_of 47) is.spelled
    ∙ pieces_of-append 47 (decimal main) (decimal sub) (decimal_lacks 47 main (omega arith)
    (omega (arith, is.main_bound))) ∙ ap (λ (ps : List (List ℕ)). decimal main ∷ ps)
    (pieces_of-lacking 47 (decimal sub) (decimal_lacks 47 sub (omega arith) (omega (arith, is.sub_bound)))) in
    ap group_parts pieces ∙ rw (
      read_back 31 main is.main_bound (omega arith),
      read_back 2047 sub is.sub_bound
          (omega arith),
    ) (ap (λ (n : ℕ). Some n) (sym is.value_is))
group_of-text text value (inr (inr is)) =
    let pieces : pieces_of 47 text ≡ decimal value ∷ [] = ap (pieces_of 47) is.1
    ∙ pieces_of-lacking 47 (decimal value) (decimal_lacks 47 value (omega arith) (omega (arith, is.0))) in
    ap group_parts pieces ∙ read_back 65535 value is.0 (omega arith)

-- the text that is written for an address is read as that address
pub individual_of-individual_text : (value : ℕ) → value < 2 ^ 16 → individual_of (individual_text value) ≡ Some value
individual_of-individual_text value below = individual_of-text (individual_text value) value (
  value / 4096,
  value / 256 % 16,
  value % 256,
  record {
    area_bound = omega arith;
    line_bound = omega arith;
    device_bound = omega arith;
    spelled = refl;
    value_is = omega arith;
  },
)

pub group_of-group_text : (value : ℕ) → value < 2 ^ 16 → group_of (group_text value) ≡ Some value
group_of-group_text value below = group_of-text (group_text value) value (inl (
  value / 2048,
  value / 256 % 8,
  value % 256,
  record {
    main_bound = omega arith;
    middle_bound = omega arith;
    sub_bound = omega arith;
    spelled = refl;
    value_is = omega arith;
  },
))
