-- The pairs of a book, which its map finds by their order.
use Rattle.std.proofs.Common.{rules, ◌≡◌, ℕ, cond, Ordering, List, Option, sym, ◌∙◌}
use Rattle.std.specs.Map.{lookup}
use Rattle.std.specs.Ordering.{nat_cmp, ordering_then, is_eq}
use Rattle.knx_base.specs.declared.address.IndAddr.{IndAddr}
use Rattle.sync_service.specs.Open.{Book, same_pair, asked_in, with_pair}

abbrev pub pair_cmp : IndAddr × IndAddr → IndAddr × IndAddr → Ordering
pair_cmp a b = ordering_then (nat_cmp a.0.0 b.0.0) (nat_cmp a.1.0 b.1.0)

pairs_equal : (a b : IndAddr × IndAddr) → is_eq (pair_cmp a b) ≡ same_pair a.0 a.1 b
pairs_equal a b = search rules

-- what the order finds at a pair is what stands at that pair
lookup_pair : (book : Book) (pair : IndAddr × IndAddr) → lookup (λ other. is_eq (pair_cmp pair other)) book
    ≡ asked_in book pair.0 pair.1
lookup_pair book pair = search rules

-- A map that was given a challenge, or none, at a pair has that there, and each other pair has its own.
pub book_updated : (old new : Book) (requester responder : IndAddr) (challenge : Option (List ℕ))
    → ((query : IndAddr × IndAddr) → lookup (λ other. is_eq (pair_cmp query other)) new
    ≡ cond (is_eq (pair_cmp (requester, responder) query)) challenge
    (lookup (λ other. is_eq (pair_cmp query other)) old))
    → asked_in new ≡ with_pair requester responder challenge (asked_in old)
book_updated old new requester responder challenge updates = λ i asker asked. at_pair (asker, asked) i where
  at_pair : (pair : IndAddr × IndAddr) → asked_in new pair.0 pair.1
      ≡ with_pair requester responder challenge (asked_in old) pair.0 pair.1
  at_pair pair = sym (lookup_pair new pair) ∙ updates pair
      ∙ (λ i. cond (pairs_equal (requester, responder) pair i) challenge (lookup_pair old pair i))
