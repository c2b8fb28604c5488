-- A document that is read to its end is one element, and one element is read to its end.
use Rattle.std.proofs.Common.{◌≡◌, ℕ, zero, suc, ◌+◌, ◌-◌, ◌<◌, Bool, true, false, cond, ◌&&◌, nat_lt, List, [], ◌∷◌, ◌++◌, length, Option, Some, None, arith, ap, ◌∙◌, sym, refl, subst, append_assoc, append-nil}
use Rattle.std.specs.Str.{IsUtf8, is_utf8, bytes_eq}
use Rattle.std.specs.Str.Lossy.{utf8_valid_len}
use Rattle.std.proofs.lemmas.Str.{IsUtf8-from_is_utf8}
use Rattle.std.proofs.lemmas.Slice.Eq.{bytes_eq-Decides}
use borrow.Author.Tests.{ltb-true}
use Rattle.std.proofs.lemmas.Bool.{lt-ltb}
use Rattle.tag_text.specs.Pieces.{Piece, piece_at}
use Rattle.tag_text.specs.Pieces as piece
use Rattle.tag_text.specs.declared.tag.Tag.{Tag}
use Rattle.tag_text.specs.declared.tag.Tag.TheVariants as tag
use Rattle.tag_text.specs.declared.tag.TagFault.{TagFault}
use Rattle.tag_text.specs.declared.tag.TagFault.TheVariants as fault
use Rattle.tag_text.specs.Document.{Left, State, Goes, Stops, place_of, is_empty, is_inside, may_begin, has_room, bad, begins, judged, step, left_of, start_of, outcome_of, after_order_mark}
use Rattle.tag_text.specs.Giving.{after_tags, only}
use Rattle.tag_text.specs.Grammar.{IsPiece, IsTag, IsEndTag}
use Rattle.tag_text.specs.Elements.{IsElement, Alone, Around, IsContent, Nothing, Skips, Has, IsMargin, NoMargin, Margin, IsWhole}
use Rattle.tag_text.proofs.PieceLemmas.{piece_less}
use Rattle.tag_text.proofs.GrammarLemmas.{is_piece}
use Rattle.tag_text.proofs.DocumentLemmas.{left_goes, left_stops}
use Rattle.tag_text.proofs.LawLemmas.{step_by, step_is, is_valid_up_to}
use Rattle.tag_text.proofs.ScanLemmas.{well_formed, ill_formed}

-- a reader that stands so
abbrev stands : ℕ → List (List ℕ) → Bool → List ℕ → State
stands total opened begun text = record { total = total; opened = opened; begun = begun; rest = text }

-- inside this element
abbrev inside : ℕ → List ℕ → List (List ℕ) → List ℕ → State
inside total name opened text = stands total (name ∷ opened) true text

after_both : (first later : List Tag) (left : Left) → after_tags (first ++ later) left
    ≡ after_tags first (after_tags later left)
after_both first later left =
    ap (λ (tags : List Tag). record { tags = tags; fault = left.fault }) (append_assoc first later left.tags)

goes_on : (s next : State) (p : Piece) (rest : List ℕ) (tags : List Tag) → IsPiece (is_inside s) s.rest rest p
    → judged s p rest ≡ Goes tags next
    → left_of s ≡ after_tags tags (left_of next)
goes_on s next p rest tags is goes = left_goes s next tags (step_is s p rest is ∙ goes)

begun_is : (s : State) (tags : List Tag) (opened : List (List ℕ)) (after : List ℕ) → may_begin s ≡ true
    → has_room s ≡ true
    → begins s tags opened after ≡ Goes tags (stands s.total opened true after)
begun_is s tags opened after may room =
    ap (λ (b : Bool). cond b (cond (has_room s) (Goes tags (stands s.total opened true after))
    (Stops (Some (fault.Deep (place_of s))))) (bad s)) may
    ∙ ap (λ (b : Bool). cond b (Goes tags (stands s.total opened true after)) (Stops (Some (fault.Deep (place_of s)))))
    room

room_for : (opened : List (List ℕ)) (levels : ℕ) → length opened + suc levels ≡ 32 → nat_lt (length opened) 32 ≡ true
room_for opened levels room = lt-ltb (length opened) 32 (omega (arith, room))

same_name : (name : List ℕ) → bytes_eq name name ≡ true
same_name name = (bytes_eq-Decides name name).1 refl

-- ---- an element is read

mutual
  element_read : (total levels : ℕ) (text rest : List ℕ) (tags : List Tag) → IsElement total levels text rest tags
      → (opened : List (List ℕ)) (begun : Bool)
      → may_begin (stands total opened begun text) ≡ true → length opened + levels ≡ 32
      → left_of (stands total opened begun text) ≡ after_tags tags (left_of (stands total opened true rest))
  element_read total levels text rest tags (Alone {levels = inner} {name = name} {attributes = attributes} is) opened
      begun may room =
      goes_on (stands total opened begun text) (stands total opened true rest) (piece.Empty name attributes) rest
      (tag.Start name attributes (total - length text) ∷ tag.End (total - length text) ∷ []) is
      (begun_is (stands total opened begun text) (tag.Start name attributes (total - length text)
      ∷ tag.End (total - length text) ∷ []) opened rest may (room_for opened inner room))
  element_read total levels text rest tags (Around {levels = within} {inner = content} {close = close} {name = name}
      {attributes = attributes} {tags = inner} is has ends) opened begun may room =
      let place : ℕ = total - length text in
      let end : List Tag = tag.End (total - length close) ∷ [] in
      let first : left_of (stands total opened begun text) ≡ after_tags (tag.Start name attributes place ∷ [])
      (left_of (inside total name opened content)) =
      goes_on (stands total opened begun text) (inside total name opened content) (piece.Start name attributes) content
      (tag.Start name attributes place ∷ []) is
      (begun_is (stands total opened begun text) (tag.Start name attributes place ∷ []) (name ∷ opened) content may
      (room_for opened within room)) in
      let last : left_of (inside total name opened close) ≡ after_tags end (left_of (stands total opened true rest)) =
      goes_on (inside total name opened close) (stands total opened true rest) (piece.End name) rest end ends
      (ap (λ (b : Bool). cond b (Goes end (stands total opened true rest)) (bad (inside total name opened close)))
      (same_name name)) in
      first
      ∙ ap (after_tags (tag.Start name attributes place ∷ []))
      (content_read total within content close inner has name opened (omega (arith, room)) ∙ ap (after_tags inner) last
      ∙ sym (after_both inner end (left_of (stands total opened true rest))))

  content_read : (total levels : ℕ) (text rest : List ℕ) (tags : List Tag) → IsContent total levels text rest tags
      → (name : List ℕ) (opened : List (List ℕ))
      → length (name ∷ opened) + levels ≡ 32
      → left_of (inside total name opened text) ≡ after_tags tags (left_of (inside total name opened rest))
  content_read total levels text rest tags Nothing name opened room = refl
  content_read total levels text rest tags (Skips {middle = middle} is more) name opened room =
      goes_on (inside total name opened text) (inside total name opened middle) piece.Skipped middle [] is refl
      ∙ content_read total levels middle rest tags more name opened room
  content_read total levels text rest tags (Has {middle = middle} {tags = first} {later = later} is more) name opened
      room =
      element_read total levels text middle first is (name ∷ opened) true refl room
      ∙ ap (after_tags first) (content_read total levels middle rest later more name opened room)
      ∙ sym (after_both first later (left_of (inside total name opened rest)))

margin_read : (total : ℕ) (begun : Bool) (text rest : List ℕ) → IsMargin text rest
    → left_of (stands total [] begun text) ≡ left_of (stands total [] begun rest)
margin_read total begun text rest NoMargin = refl
margin_read total begun text rest (Margin {middle = middle} is more) =
    goes_on (stands total [] begun text) (stands total [] begun middle) piece.Skipped middle [] is refl
    ∙ margin_read total begun middle rest more

end_read : (total : ℕ) → left_of (stands total [] true []) ≡ only None
end_read total =
    left_stops (stands total [] true []) None (step_by (stands total [] true []) true (piece_at false []) refl refl)

pub whole_read : (octets : List ℕ) (tags : List Tag) → IsWhole octets tags
    → outcome_of octets ≡ record { tags = tags; fault = None }
whole_read octets tags is =
    well_formed octets is.utf8
    ∙ margin_read (length octets) false (after_order_mark octets) is.root is.before
    ∙ element_read (length octets) 32 is.root is.after tags is.element [] false refl refl
    ∙ ap (after_tags tags) (margin_read (length octets) true is.after [] is.behind ∙ end_read (length octets))
    ∙ ap (λ (all : List Tag). record { tags = all; fault = None }) (append-nil tags)

-- ---- what is read to its end is an element

stopped : (s : State) (why : TagFault) → step s ≡ Stops (Some why) → (left_of s).fault ≡ None → ⊥
stopped s why stops none = cc (ap (λ (left : Left). left.fault) (left_stops s (Some why) stops), none)

same_fault : (s : State) (tags : List Tag) (left : Left) → left_of s ≡ after_tags tags left → (left_of s).fault ≡ None
    → left.fault ≡ None
same_fault s tags left is none = sym (ap (λ (all : Left). all.fault) is) ∙ none

and_false : (b : Bool) → (b && false) ≡ false
and_false true = refl
and_false false = refl

-- the content of an element, up to its end tag
record HasContent (total levels : ℕ) (name : List ℕ) (opened : List (List ℕ)) (text : List ℕ) : Type 0 where
  tags : List Tag
  close : List ℕ
  rest : List ℕ
  content : IsContent total levels text close tags
  ended : IsEndTag close rest name
  left : left_of (inside total name opened text) ≡ after_tags (tags ++ tag.End (total - length close) ∷ [])
      (left_of (stands total opened true rest))
  less : length rest < length text

-- a shorter text has it
abbrev AreFound : ℕ → ℕ → Type 0
AreFound total n = (levels : ℕ) (name : List ℕ) (opened : List (List ℕ)) (text : List ℕ) → length text < n
    → length (name ∷ opened) + levels ≡ 32
    → (left_of (inside total name opened text)).fault ≡ None → HasContent total levels name opened text

element_then : (total levels : ℕ) (name : List ℕ) (opened : List (List ℕ)) (text rest : List ℕ) (tags : List Tag)
    → IsElement total levels text rest tags
    → left_of (inside total name opened text) ≡ after_tags tags (left_of (inside total name opened rest))
    → length rest < length text
    → HasContent total levels name opened rest → HasContent total levels name opened text
element_then total levels name opened text rest tags is left less more =
    let end : List Tag = tag.End (total - length more.close) ∷ [] in
    let later : Left = left_of (stands total opened true more.rest) in
    record {
      tags = tags ++ more.tags;
      close = more.close;
      rest = more.rest;
      content = Has is more.content;
      ended = more.ended;
      left =
          left ∙ ap (after_tags tags) more.left ∙ sym (after_both tags (more.tags ++ end) later)
          ∙ ap (λ (all : List Tag). after_tags all later) (sym (append_assoc tags more.tags end));
      less = omega (arith, less, more.less);
    }

start_case : (n total levels : ℕ) (name : List ℕ) (opened : List (List ℕ)) (text own : List ℕ)
    (attributes : List (List ℕ × List ℕ)) (after : List ℕ) (b : Bool)
    → nat_lt (length (name ∷ opened)) 32 ≡ b → IsTag text after false own attributes → length after < length text
    → AreFound total n → length text < suc n
    → length (name ∷ opened) + levels ≡ 32 → (left_of (inside total name opened text)).fault ≡ None
    → HasContent total levels name opened text
start_case n total levels name opened text own attributes after false has is less found small room none =
    let s : State = inside total name opened text in
    let start : List Tag = tag.Start own attributes (total - length text) ∷ [] in
    absurd (stopped s (fault.Deep (place_of s))
    (step_is s (piece.Start own attributes) after is
    ∙ ap (λ (b : Bool). cond b (Goes start (inside total own (name ∷ opened) after))
    (Stops (Some (fault.Deep (place_of s))))) has) none)
start_case n total zero name opened text own attributes after true has is less found small room none =
    absurd (omega (arith, room, ltb-true (length (name ∷ opened)) 32 has))
start_case n total (suc levels) name opened text own attributes after true has is less found small room none =
    let s : State = inside total name opened text in
    let start : List Tag = tag.Start own attributes (total - length text) ∷ [] in
    let first : left_of s ≡ after_tags start (left_of (inside total own (name ∷ opened) after)) =
    goes_on s (inside total own (name ∷ opened) after) (piece.Start own attributes) after start is
    (begun_is s start (own ∷ name ∷ opened) after refl has) in
    let within : HasContent total levels own (name ∷ opened) after =
    found levels own (name ∷ opened) after (omega (arith, less, small)) (omega (arith, room))
    (same_fault s start (left_of (inside total own (name ∷ opened) after)) first none) in
    let whole : left_of s ≡ after_tags (start ++ (within.tags ++ tag.End (total - length within.close) ∷ []))
    (left_of (inside total name opened within.rest)) =
    first ∙ ap (after_tags start) within.left in
    let shorter : length within.rest < length text = omega (arith, less, within.less) in
    element_then total (suc levels) name opened text within.rest
    (start ++ (within.tags ++ tag.End (total - length within.close) ∷ []))
    (Around is within.content within.ended) whole shorter
    (found (suc levels) name opened within.rest (omega (arith, shorter, small)) room
    (same_fault s (start ++ (within.tags ++ tag.End (total - length within.close) ∷ []))
    (left_of (inside total name opened within.rest)) whole none))

empty_case : (n total levels : ℕ) (name : List ℕ) (opened : List (List ℕ)) (text own : List ℕ)
    (attributes : List (List ℕ × List ℕ)) (after : List ℕ) (b : Bool)
    → nat_lt (length (name ∷ opened)) 32 ≡ b → IsTag text after true own attributes → length after < length text
    → AreFound total n → length text < suc n
    → length (name ∷ opened) + levels ≡ 32 → (left_of (inside total name opened text)).fault ≡ None
    → HasContent total levels name opened text
empty_case n total levels name opened text own attributes after false has is less found small room none =
    let s : State = inside total name opened text in
    let both : List Tag = tag.Start own attributes (total - length text) ∷ tag.End (total - length text) ∷ [] in
    absurd (stopped s (fault.Deep (place_of s))
    (step_is s (piece.Empty own attributes) after is
    ∙ ap (λ (b : Bool). cond b (Goes both (inside total name opened after)) (Stops (Some (fault.Deep (place_of s)))))
    has) none)
empty_case n total zero name opened text own attributes after true has is less found small room none =
    absurd (omega (arith, room, ltb-true (length (name ∷ opened)) 32 has))
empty_case n total (suc levels) name opened text own attributes after true has is less found small room none =
    let s : State = inside total name opened text in
    let both : List Tag = tag.Start own attributes (total - length text) ∷ tag.End (total - length text) ∷ [] in
    let whole : left_of s ≡ after_tags both (left_of (inside total name opened after)) =
    goes_on s (inside total name opened after) (piece.Empty own attributes) after both is
    (begun_is s both (name ∷ opened) after refl has) in
    element_then total (suc levels) name opened text after both (Alone is) whole less
    (found (suc levels) name opened after (omega (arith, less, small)) room
    (same_fault s both (left_of (inside total name opened after)) whole none))

end_case : (total levels : ℕ) (name : List ℕ) (opened : List (List ℕ)) (text own after : List ℕ) (b : Bool)
    → bytes_eq name own ≡ b → IsEndTag text after own
    → length after < length text → (left_of (inside total name opened text)).fault ≡ None
    → HasContent total levels name opened text
end_case total levels name opened text own after true same is less none =
    let s : State = inside total name opened text in
    let end : List Tag = tag.End (total - length text) ∷ [] in
    record {
      tags = [];
      close = text;
      rest = after;
      content = Nothing;
      ended = subst (λ (other : List ℕ). IsEndTag text after other) (sym ((bytes_eq-Decides name own).0 same)) is;
      left =
          goes_on s (stands total opened true after) (piece.End own) after end is
          (ap (λ (b : Bool). cond b (Goes end (stands total opened true after)) (bad s)) same);
      less = less;
    }
end_case total levels name opened text own after false same is less none =
    let s : State = inside total name opened text in
    absurd (stopped s (fault.Bad (place_of s))
    (step_is s (piece.End own) after is ∙ ap (λ (b : Bool). cond b
    (Goes (tag.End (total - length text) ∷ []) (stands total opened true after)) (bad s)) same) none)

judged_case : (n total levels : ℕ) (name : List ℕ) (opened : List (List ℕ)) (text : List ℕ) (p : Piece) (after : List ℕ)
    → IsPiece true text after p
    → length after < length text → AreFound total n → length text < suc n → length (name ∷ opened) + levels ≡ 32
    → (left_of (inside total name opened text)).fault ≡ None → HasContent total levels name opened text
judged_case n total levels name opened text (piece.Start own attributes) after is less found small room none =
    start_case n total levels name opened text own attributes after (nat_lt (length (name ∷ opened)) 32) refl is less
    found small room none
judged_case n total levels name opened text (piece.Empty own attributes) after is less found small room none =
    empty_case n total levels name opened text own attributes after (nat_lt (length (name ∷ opened)) 32) refl is less
    found small room none
judged_case n total levels name opened text (piece.End own) after is less found small room none =
    end_case total levels name opened text own after (bytes_eq name own) refl is less none
judged_case n total levels name opened text piece.Skipped after is less found small room none =
    let s : State = inside total name opened text in
    let goes : left_of s ≡ left_of (inside total name opened after) =
    goes_on s (inside total name opened after) piece.Skipped after [] is refl in
    let more : HasContent total levels name opened after =
    found levels name opened after (omega (arith, less, small)) room
    (same_fault s [] (left_of (inside total name opened after)) goes none) in
    record {
      tags = more.tags;
      close = more.close;
      rest = more.rest;
      content = Skips is more.content;
      ended = more.ended;
      left = goes ∙ more.left;
      less = omega (arith, less, more.less);
    }

piece_case : (n total levels : ℕ) (name : List ℕ) (opened : List (List ℕ)) (text : List ℕ) (o : Option (Piece × List ℕ))
    → piece_at true text ≡ o
    → AreFound total n → length text < suc n → length (name ∷ opened) + levels ≡ 32
    → (left_of (inside total name opened text)).fault ≡ None → HasContent total levels name opened text
piece_case n total levels name opened text None is found small room none =
    let s : State = inside total name opened text in
    absurd (stopped s (fault.Bad (place_of s)) (step_by s false None (and_false (is_empty text && true)) is) none)
piece_case n total levels name opened text (Some taken) is found small room none =
    judged_case n total levels name opened text taken.0 taken.1 (is_piece true text taken is)
    (piece_less true text taken is) found small room none

content_found : (n total : ℕ) → AreFound total n
content_found zero total levels name opened text small room none = absurd (omega (arith, small))
content_found (suc n) total levels name opened text small room none =
    piece_case n total levels name opened text (piece_at true text) refl (content_found n total) small room none

-- ---- behind the root element

abbrev IsBehind : ℕ → List ℕ → Type 0
IsBehind total text = IsMargin text [] × (left_of (stands total [] true text) ≡ only None)

behind_judged : (total : ℕ) (text : List ℕ) (p : Piece) (after : List ℕ) → IsPiece false text after p
    → (left_of (stands total [] true text)).fault ≡ None
    → ((left_of (stands total [] true after)).fault ≡ None → IsBehind total after) → IsBehind total text
behind_judged total text (piece.Start own attributes) after is none more =
    absurd (stopped (stands total [] true text) (fault.Bad (total - length text))
    (step_is (stands total [] true text) (piece.Start own attributes) after is) none)
behind_judged total text (piece.Empty own attributes) after is none more =
    absurd (stopped (stands total [] true text) (fault.Bad (total - length text))
    (step_is (stands total [] true text) (piece.Empty own attributes) after is) none)
behind_judged total text (piece.End own) after is none more =
    absurd (stopped (stands total [] true text) (fault.Bad (total - length text))
    (step_is (stands total [] true text) (piece.End own) after is) none)
behind_judged total text piece.Skipped after is none more =
    let s : State = stands total [] true text in
    let goes : left_of s ≡ left_of (stands total [] true after) =
    goes_on s (stands total [] true after) piece.Skipped after [] is refl in
    let rest : IsBehind total after = more (same_fault s [] (left_of (stands total [] true after)) goes none) in
    (Margin is rest.0, goes ∙ rest.1)

behind_case : (n total : ℕ) (octet : ℕ) (text : List ℕ) (o : Option (Piece × List ℕ))
    → piece_at false (octet ∷ text) ≡ o
    → ((after : List ℕ) → length after < n → (left_of (stands total [] true after)).fault ≡ None → IsBehind total after)
    → length (octet ∷ text) < suc n → (left_of (stands total [] true (octet ∷ text))).fault ≡ None
    → IsBehind total (octet ∷ text)
behind_case n total octet text None is more small none =
    let s : State = stands total [] true (octet ∷ text) in
    absurd (stopped s (fault.Bad (place_of s)) (step_by s false None refl is) none)
behind_case n total octet text (Some taken) is more small none =
    let less : length taken.1 < length (octet ∷ text) = piece_less false (octet ∷ text) taken is in
    behind_judged total (octet ∷ text) taken.0 taken.1 (is_piece false (octet ∷ text) taken is) none
    (more taken.1 (omega (arith, less, small)))

behind_found : (n total : ℕ) (text : List ℕ) → length text < n → (left_of (stands total [] true text)).fault ≡ None
    → IsBehind total text
behind_found zero total text small none = absurd (omega (arith, small))
behind_found (suc n) total [] small none = (NoMargin, end_read total)
behind_found (suc n) total (octet ∷ text) small none =
    behind_case n total octet text (piece_at false (octet ∷ text)) refl (behind_found n total) small none

-- ---- the root element

record HasRoot (total : ℕ) (text : List ℕ) : Type 0 where
  tags : List Tag
  root : List ℕ
  after : List ℕ
  before : IsMargin text root
  element : IsElement total 32 root after tags
  behind : IsMargin after []
  left : left_of (stands total [] false text) ≡ record { tags = tags; fault = None }

-- the root element, and what is behind it
element_only : (total : ℕ) (text rest : List ℕ) (tags : List Tag) → IsElement total 32 text rest tags
    → left_of (stands total [] false text) ≡ after_tags tags (left_of (stands total [] true rest))
    → (left_of (stands total [] false text)).fault ≡ None → HasRoot total text
element_only total text rest tags is left none =
    let last : IsBehind total rest =
    behind_found (suc (length rest)) total rest (omega arith)
    (same_fault (stands total [] false text) tags (left_of (stands total [] true rest)) left none) in
    record {
      tags = tags;
      root = text;
      after = rest;
      before = NoMargin;
      element = is;
      behind = last.0;
      left = left ∙ ap (after_tags tags) last.1 ∙ ap (λ (all : List Tag). record { tags = all; fault = None })
          (append-nil tags);
    }

root_judged : (total : ℕ) (text : List ℕ) (p : Piece) (after : List ℕ) → IsPiece false text after p
    → (left_of (stands total [] false text)).fault ≡ None
    → ((left_of (stands total [] false after)).fault ≡ None → HasRoot total after) → HasRoot total text
root_judged total text (piece.Start own attributes) after is none more =
    let s : State = stands total [] false text in
    let start : List Tag = tag.Start own attributes (total - length text) ∷ [] in
    let first : left_of s ≡ after_tags start (left_of (inside total own [] after)) =
    goes_on s (inside total own [] after) (piece.Start own attributes) after start is
    (begun_is s start (own ∷ []) after refl refl) in
    let within : HasContent total 31 own [] after =
    content_found (suc (length after)) total 31 own [] after (omega arith) refl
    (same_fault s start (left_of (inside total own [] after)) first none) in
    element_only total text within.rest (start ++ (within.tags ++ tag.End (total - length within.close) ∷ []))
    (Around is within.content within.ended)
    (first ∙ ap (after_tags start) within.left) none
root_judged total text (piece.Empty own attributes) after is none more =
    let s : State = stands total [] false text in
    let both : List Tag = tag.Start own attributes (total - length text) ∷ tag.End (total - length text) ∷ [] in
    element_only total text after both (Alone is)
    (goes_on s (stands total [] true after) (piece.Empty own attributes) after both is
    (begun_is s both [] after refl refl)) none
root_judged total text (piece.End own) after is none more =
    absurd (stopped (stands total [] false text) (fault.Bad (total - length text))
    (step_is (stands total [] false text) (piece.End own) after is) none)
root_judged total text piece.Skipped after is none more =
    let s : State = stands total [] false text in
    let goes : left_of s ≡ left_of (stands total [] false after) =
    goes_on s (stands total [] false after) piece.Skipped after [] is refl in
    let found : HasRoot total after = more (same_fault s [] (left_of (stands total [] false after)) goes none) in
    record {
      tags = found.tags;
      root = found.root;
      after = found.after;
      before = Margin is found.before;
      element = found.element;
      behind = found.behind;
      left = goes ∙ found.left;
    }

root_case : (n total : ℕ) (text : List ℕ) (o : Option (Piece × List ℕ)) → piece_at false text ≡ o
    → ((after : List ℕ) → length after < n → (left_of (stands total [] false after)).fault ≡ None → HasRoot total after)
    → length text < suc n → (left_of (stands total [] false text)).fault ≡ None → HasRoot total text
root_case n total text None is more small none =
    let s : State = stands total [] false text in
    absurd (stopped s (fault.Bad (place_of s)) (step_by s false None
    (ap (λ (b : Bool). b && true) (and_false (is_empty text))) is) none)
root_case n total text (Some taken) is more small none =
    let less : length taken.1 < length text = piece_less false text taken is in
    root_judged total text taken.0 taken.1 (is_piece false text taken is) none
    (more taken.1 (omega (arith, less, small)))

root_found : (n total : ℕ) (text : List ℕ) → length text < n → (left_of (stands total [] false text)).fault ≡ None
    → HasRoot total text
root_found zero total text small none = absurd (omega (arith, small))
root_found (suc n) total text small none =
    root_case n total text (piece_at false text) refl (root_found n total) small none

whole_case : (octets : List ℕ) (tags : List Tag) (b : Bool) → is_utf8 octets ≡ b
    → outcome_of octets ≡ record { tags = tags; fault = None } → IsWhole octets tags
whole_case octets tags true is outcome =
    let utf8 : IsUtf8 octets = IsUtf8-from_is_utf8 octets is in
    let left : left_of (start_of octets) ≡ record { tags = tags; fault = None } =
    sym (well_formed octets utf8) ∙ outcome in
    let found : HasRoot (length octets) (after_order_mark octets) =
    root_found (suc (length (after_order_mark octets))) (length octets) (after_order_mark octets) (omega arith)
    (ap (λ (all : Left). all.fault) left) in
    let same : found.tags ≡ tags = ap (λ (all : Left). all.tags) (sym found.left ∙ left) in
    record {
      root = found.root;
      after = found.after;
      utf8 = utf8;
      before = found.before;
      element = subst (λ (all : List Tag). IsElement (length octets) 32 found.root found.after all) same found.element;
      behind = found.behind;
    }
whole_case octets tags false is outcome =
    absurd (cc (ap (λ (all : Left). all.fault) (sym (ill_formed octets (utf8_valid_len octets)
    (is_valid_up_to octets is) refl) ∙ outcome)))

-- what is read to its end is one element
pub whole_found : (octets : List ℕ) (tags : List Tag) → outcome_of octets ≡ record { tags = tags; fault = None }
    → IsWhole octets tags
whole_found octets tags outcome = whole_case octets tags (is_utf8 octets) refl outcome
