use Rattle.std.proofs.Common.{◌≡◌, suc, ◌+◌, [], slice_index, slice_index_or, subst, ap, refl, ◌∙◌, sym, arith, inl, inr}
use Rattle.std.proofs.lemmas.List.{get_or-set_same, get_or-set_other, length-set}
use Rattle.std.proofs.lemmas.List.FromFn.{fill_by_all}
use Rattle.std.proofs.lemmas.Bool.{cases_lt}
use Rattle.aes_modes.specs.Cipher.{IsBlock, square, next_entry, round_constant, key_expansion}
use Rattle.aes_modes.specs.Words.{block_of, columns_of, schedule_of}
use Rattle.aes_modes.proofs.Octets.{block_of-columns_of}
use Rattle.aes_modes.proofs.Squares.{IsBlock_block_of, IsBlock_key_expansion}
use Rattle.aes_modes.proofs.Computed.{round_constant_at}
use Rattle.aes_modes.specs.declared.tables.TheConstants.{ROUND_CONSTANTS}
use Rattle.aes_modes.proofs.key.Key128.new.Goals as goal

pub expansion-init : goal.expansion-init
unfolding key_expansion
expansion-init c = record {
  long = refl;
  expanded = λ i le. let e : i ≡ 0 = omega arith in rw e c.load-first.ensures.columns;
}

-- the round key that is written is the next one
next_is : (c : goal.After-next_round_key-next) → block_of c.next_round_key-next.result
    ≡ key_expansion c.args.key (c.expansion.n + 1)
unfolding key_expansion
next_is c =
    let key = c.args.key in
    let n = c.expansion.n in
    let last : block_of (slice_index_or c.expansion.round_keys n []) ≡ key_expansion key n =
    ap block_of (c.expansion.invariant.expanded n (omega arith))
    ∙ block_of-columns_of (key_expansion key n) (IsBlock_key_expansion key
    (subst IsBlock c.load-first.ensures.same (IsBlock_block_of c.load-first.result)) n (omega arith)) in
    let constant : slice_index ROUND_CONSTANTS n ≡ round_constant n = round_constant_at n (omega arith) in
    c.next_round_key-next.ensures.same
    ∙ (λ i. square (next_entry (last i) (constant i)))
    ∙ ap (key_expansion key) (let e : suc n ≡ n + 1 = omega arith in e)

pub expansion-preserved : goal.expansion-preserved
expansion-preserved c =
    let keys = c.expansion.round_keys in
    let next = c.next_round_key-next.result in
    record {
      long = length-set keys (c.expansion.n + 1) next ∙ c.expansion.invariant.long;
      expanded = λ i le. elim (cases_lt i (c.expansion.n + 1)) [
        | inl before ↦
            get_or-set_other keys (c.expansion.n + 1) i next [] (omega arith)
            ∙ c.expansion.invariant.expanded i (omega arith)
        | inr now ↦
            let e : i ≡ c.expansion.n + 1 = omega arith in
            rw e (get_or-set_same keys (c.expansion.n + 1) next [] (omega arith)
            ∙ c.next_round_key-next.ensures.columns ∙ ap columns_of (next_is c))
      ];
    }

-- the first round key is the key
first_is : (c : goal.After-expansion) → block_of (slice_index_or c.expansion.round_keys 0 []) ≡ c.args.key
unfolding key_expansion
first_is c = ap block_of (c.expansion.invariant.expanded 0 (omega arith))
    ∙ ap block_of (sym c.load-first.ensures.columns) ∙ c.load-first.ensures.same

pub invariant_of-result : goal.invariant_of-result
invariant_of-result c =
    let filled : c.expansion.round_keys ≡ schedule_of c.args.key = unfold schedule_of in
    fill_by_all (λ n. columns_of (key_expansion c.args.key n)) c.expansion.round_keys 11 [] c.expansion.invariant.long
    (λ n lt. c.expansion.invariant.expanded n (omega arith)) in
    filled ∙ ap schedule_of (sym (first_is c))

pub returns : goal.returns
returns c = first_is c
