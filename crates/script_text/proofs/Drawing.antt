-- Events that are drawn one after another.
use Rattle.std.proofs.Common.{◌≡◌, ℕ, zero, suc, ◌+◌, ◌-◌, ◌<◌, ◌≤◌, List, [], ◌∷◌, ◌++◌, refl, sym, ap, subst, ◌∙◌, append_assoc, append-nil, length-append, arith}
use Rattle.script_text.specs.Made.{event_made, events_made}
use Rattle.script_text.specs.Said.{Before, is_start}
use Rattle.script_text.specs.Lists.{added, IsDrawn, IsMade, IsWithEvents}
use Rattle.script_text.specs.declared.event.Event.{Event}
use Rattle.script_text.specs.declared.said.Said.TheVariants as said

pub none_drawn : (old : Before) (number count : ℕ) → old.events ≡ [] → IsDrawn old old number count 0 number 0
none_drawn old number count none = record {
  past = [];
  with_past = record {
    rows_are = refl;
    nodes_are = refl;
    objects_are = refl;
    marks_are = refl;
    events_are = sym (append-nil old.events);
    begun = λ begun. begun;
  };
  many = refl;
  follow = ap (λ n. events_made n 1 number 0) (omega arith);
  counted = omega arith;
}

one_drawn : (left number state sends : ℕ) (event : Event) (later laterSends : ℕ)
    → IsMade (event_made number state sends) event later laterSends
    → events_made (suc left) number state sends ≡ event ∷ events_made left (number + 1) later laterSends
one_drawn left number state sends event later laterSends is =
    ap (λ e. e ∷ events_made left (number + 1) (event_made number state sends).state
    (event_made number state sends).sends) (sym is.event_is)
    ∙ ap (λ s. event ∷ events_made left (number + 1) s (event_made number state sends).sends) (sym is.state_is)
    ∙ ap (λ s. event ∷ events_made left (number + 1) later s) (sym is.sends_are)

pub one_more_drawn : (old now new : Before) (number count index state sends : ℕ) (event : Event) (later laterSends : ℕ)
    → IsDrawn old now number count index state sends → index < count
    → IsMade (event_made (index + 1) state sends) event later laterSends
    → new ≡ added now (said.Event event) → laterSends ≤ sends + 1
    → IsDrawn old new number count (index + 1) later laterSends
one_more_drawn old now new number count index state sends event later laterSends drawn below made is few =
    let one : count - index ≡ suc (count - (index + 1)) = omega (arith, below) in
    let w = drawn.with_past in
    record {
      past = drawn.past ++ event ∷ [];
      with_past = record {
        rows_are = ap (λ (b : Before). b.rows) is ∙ w.rows_are;
        nodes_are = ap (λ (b : Before). b.nodes) is ∙ w.nodes_are;
        objects_are = ap (λ (b : Before). b.objects) is ∙ w.objects_are;
        marks_are = ap (λ (b : Before). b.marks) is ∙ w.marks_are;
        events_are = ap (λ (b : Before). b.events) is ∙ ap (λ events. events ++ event ∷ []) w.events_are
            ∙ append_assoc old.events drawn.past (event ∷ []);
        begun = λ _. ap (λ (b : Before). is_start b.stage) is;
      };
      many = length-append drawn.past (event ∷ []) ∙ ap (λ n. n + 1) drawn.many;
      follow = append_assoc drawn.past (event ∷ []) (events_made (count - (index + 1)) (index + 1 + 1) later laterSends)
          ∙ ap (λ events. drawn.past ++ events) (sym (one_drawn (count - (index + 1)) (index + 1) state sends event
          later laterSends made))
          ∙ ap (λ n. drawn.past ++ events_made n (index + 1) state sends) (sym one)
          ∙ drawn.follow;
      counted = omega (arith, few, drawn.counted);
    }

pub all_drawn : (old new : Before) (number count state sends : ℕ) → IsDrawn old new number count count state sends
    → IsWithEvents old (events_made count 1 number 0) new
all_drawn old new number count state sends drawn =
    let none : count - count ≡ 0 = omega arith in
    let past : drawn.past ≡ events_made count 1 number 0 =
    sym (append-nil drawn.past) ∙ ap (λ n. drawn.past ++ events_made n (count + 1) state sends) (sym none)
    ∙ drawn.follow in
    subst (λ events. IsWithEvents old events new) past drawn.with_past
