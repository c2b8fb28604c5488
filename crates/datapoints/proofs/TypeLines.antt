-- Lines of a text of types that are read in turn.
use Rattle.std.proofs.Common.{◌≡◌, ℕ, ◌+◌, List, [], ◌∷◌, ◌++◌, length, Bool, true, false, Option, Some, None, Result, Ok, Err, inl, inr, ◌<◌, refl, sym, ap, subst, ◌∙◌, arith, append_assoc, append-nil, length-append}
use Rattle.std.specs.Option.{option_or, option_to_list}
use Rattle.std.specs.List.{filter_map, list_any, slice_index_or}
use Rattle.std.specs.Str.Lines.{lines}
use Rattle.std.proofs.lemmas.Bool.{cases_Bool, true≢false}
use Rattle.std.proofs.lemmas.List.Elements.{filter_map-append}
use Rattle.std.proofs.lemmas.List.Folds.{list_any_at}
use Rattle.std.proofs.lemmas.List.Quantifiers.{all_pairs_push}
use Rattle.knx_base.specs.declared.address.GroupAddr.{GroupAddr}
use Rattle.knx_base.specs.declared.cause.Cause.{Cause}
use Rattle.key_tables.specs.First.{first_of}
use Rattle.datapoints.specs.declared.dpt.Dpt.{Dpt}
use Rattle.datapoints.specs.declared.types.TypesFault.{TypesFault}
use Rattle.datapoints.specs.declared.types.TypesFault.TheVariants.{Line, Twice, TooMany, NoMemory}
use Rattle.datapoints.specs.Types.{is_of, NoneTwice, row_fault, line_says, row_said, rows_of, refusal, line_fault, types_of, unless, IsRefusal, IsTextFault}

or_assoc : {T : Type 0} (a b c : Option T) → option_or a (option_or b c) ≡ option_or (option_or a b) c
or_assoc None b c = refl
or_assoc (Some x) b c = refl

first_of-append : {A B : Type 0} (test : List A → A → Option B) (before xs ys : List A)
    → first_of test before (xs ++ ys) ≡ option_or (first_of test before xs) (first_of test (before ++ xs) ys)
first_of-append test before [] ys = ap (λ earlier. first_of test earlier ys) (sym (append-nil before))
first_of-append test before (x ∷ xs) ys =
    ap (λ later. option_or (test before x) later) (first_of-append test (before ++ x ∷ []) xs ys)
    ∙ ap (λ earlier. option_or (test before x) (option_or (first_of test (before ++ x ∷ []) xs)
    (first_of test earlier ys)))
    (append_assoc before (x ∷ []) xs)
    ∙ or_assoc (test before x) (first_of test (before ++ x ∷ []) xs) (first_of test (before ++ x ∷ xs) ys)

first_after : {A B : Type 0} (test : List A → A → Option B) (before xs ys : List A) → first_of test before xs ≡ None
    → first_of test before (xs ++ ys) ≡ first_of test (before ++ xs) ys
first_after test before xs ys none =
    first_of-append test before xs ys ∙ ap (λ earlier. option_or earlier (first_of test (before ++ xs) ys)) none

-- of all lines these were read, all right, and those are left
pub record HasRead (all done left : List (List ℕ)) (given : ℕ) (rows : List (GroupAddr × Dpt)) : Type 0 where
  pub whole : done ++ left ≡ all
  pub given_is : given ≡ length done
  pub rows_are : rows ≡ rows_of done
  pub right : first_of line_fault [] done ≡ None
  pub once : NoneTwice rows

pub begun : (all : List (List ℕ)) → HasRead all [] all 0 []
begun all = record {
  whole = refl;
  given_is = refl;
  rows_are = refl;
  right = refl;
  once = λ i j d before within. absurd (omega (arith, within));
}

-- the fault of the next line, in the words of the call that takes it
next_fault : (done : List (List ℕ)) (line : List ℕ) (given number : ℕ) (rows : List (GroupAddr × Dpt))
    → given ≡ length done
    → rows ≡ rows_of done
    → number ≡ given + 1 → refusal number rows (line_says line) ≡ line_fault done line
unfolding line_fault
next_fault done line given number rows given_is rows_are number_is =
    ap (λ n. refusal n rows (line_says line)) (number_is ∙ ap (λ n. n + 1) given_is)
    ∙ ap (λ before. refusal (length done + 1) before (line_says line)) rows_are

one_row : (said : Option (GroupAddr × Dpt)) → option_to_list said ≡ filter_map (λ o. o) (said ∷ [])
one_row None = refl
one_row (Some row) = refl

pub one_more_line : (done : List (List ℕ)) (line : List ℕ) → rows_of (done ++ line ∷ []) ≡ rows_of done
    ++ option_to_list (row_said (line_says line))
one_more_line done line =
    filter_map-append (λ l. row_said (line_says l)) done (line ∷ [])
    ∙ ap (λ rows. rows_of done ++ rows) (sym (one_row (row_said (line_says line))))

none_passes : {A : Type 0} (p : A → Bool) (xs : List A) (k : ℕ) (d : A) → k < length xs → list_any p xs ≡ false
    → p (slice_index_or xs k d) ≡ false
none_passes p xs k d within none = elim (cases_Bool (p (slice_index_or xs k d))) [
  | inl passes ↦ absurd (true≢false (sym (list_any_at p xs k d within passes) ∙ none))
  | inr fails ↦ fails
]

not_before : (number : ℕ) (rows : List (GroupAddr × Dpt)) (row : GroupAddr × Dpt) → row_fault number rows row ≡ None
    → list_any (is_of row.0) rows ≡ false
not_before number rows row right = by (list_any (is_of row.0) rows) refl where
  by : (again : Bool) → list_any (is_of row.0) rows ≡ again → list_any (is_of row.0) rows ≡ false
  by true again = absurd (let fault = rw again at right in cc)
  by false again = again

-- a row that is taken is of a group that has none yet
once_more : (number : ℕ) (rows : List (GroupAddr × Dpt)) (said : Result (Option (GroupAddr × Dpt)) Cause)
    → refusal number rows said ≡ None
    → NoneTwice rows → NoneTwice (rows ++ option_to_list (row_said said))
once_more number rows (Err why) right once = absurd cc
once_more number rows (Ok None) right once = subst NoneTwice (sym (append-nil rows)) once
once_more number rows (Ok (Some row)) right once =
    all_pairs_push (λ row later. is_of later.0 row ≡ false) rows row once
    (λ k d within. none_passes (is_of row.0) rows k d within (not_before number rows row right))

pub line_taken : (all done left next : List (List ℕ)) (line : List ℕ) (given number : ℕ)
    (rows now : List (GroupAddr × Dpt))
    → HasRead all done next given rows → next ≡ line ∷ left → number ≡ given + 1
    → now ≡ rows ++ option_to_list (row_said (line_says line)) → refusal number rows (line_says line) ≡ None
    → HasRead all (done ++ line ∷ []) left number now
line_taken all done left next line given number rows now read is number_is taken right = record {
  whole = append_assoc done (line ∷ []) left ∙ ap (λ l. done ++ l) (sym is) ∙ read.whole;
  given_is = omega (arith, number_is, read.given_is, length-append done (line ∷ []));
  rows_are = taken ∙ ap (λ before. before ++ option_to_list (row_said (line_says line))) read.rows_are
      ∙ sym (one_more_line done line);
  right =
      first_after line_fault [] done (line ∷ []) read.right
      ∙ ap (λ fault. option_or fault None)
      (sym (next_fault done line given number rows read.given_is read.rows_are number_is) ∙ right);
  once = subst NoneTwice (sym taken) (once_more number rows (line_says line) right read.once);
}

refused_text : (fault : TypesFault) (found : Option TypesFault) (rows : List (GroupAddr × Dpt)) → IsRefusal fault found
    → IsTextFault fault (unless found rows)
refused_text NoMemory found rows h = tt
refused_text (Line n why) found rows h = ap (λ o. unless o rows) h
refused_text (Twice n) found rows h = ap (λ o. unless o rows) h
refused_text (TooMany n) found rows h = ap (λ o. unless o rows) h

is_first : (fault : TypesFault) (found later : Option TypesFault) → IsRefusal fault found
    → IsRefusal fault (option_or found later)
is_first NoMemory found later h = tt
is_first (Line n why) found later h = ap (λ o. option_or o later) h
is_first (Twice n) found later h = ap (λ o. option_or o later) h
is_first (TooMany n) found later h = ap (λ o. option_or o later) h

pub line_refused : (text : List ℕ) (done left next : List (List ℕ)) (line : List ℕ) (given number : ℕ)
    (rows : List (GroupAddr × Dpt)) (fault : TypesFault)
    → HasRead (lines text) done next given rows → next ≡ line ∷ left → number ≡ given + 1
    → IsRefusal fault (refusal number rows (line_says line)) → IsTextFault fault (types_of text)
unfolding types_of
line_refused text done left next line given number rows fault read is number_is h =
    let own = next_fault done line given number rows read.given_is read.rows_are number_is in
    let later = first_of line_fault (done ++ line ∷ []) left in
    let first : first_of line_fault [] (lines text) ≡ option_or (line_fault done line) later =
    ap (first_of line_fault []) (sym read.whole ∙ ap (λ l. done ++ l) is)
    ∙ first_after line_fault [] done (line ∷ left) read.right
    in
    refused_text fault _ (rows_of (lines text))
    (subst (λ found. IsRefusal fault found) (sym first)
    (is_first fault (line_fault done line) later (subst (λ found. IsRefusal fault found) own h)))

pub text_read : (text : List ℕ) (done left : List (List ℕ)) (given : ℕ) (rows : List (GroupAddr × Dpt))
    → HasRead (lines text) done left given rows
    → left ≡ [] → types_of text ≡ Ok rows
unfolding types_of
text_read text done left given rows read none =
    let all : lines text ≡ done = sym read.whole ∙ ap (λ l. done ++ l) none ∙ append-nil done in
    ap (λ l. unless (first_of line_fault [] l) (rows_of l)) all
    ∙ ap (λ fault. unless fault (rows_of done)) read.right
    ∙ ap Ok (sym read.rows_are)
