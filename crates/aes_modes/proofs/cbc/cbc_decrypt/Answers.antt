use Rattle.std.proofs.Common.{◌≡◌, ℕ, ◌+◌, ◌-◌, ◌*◌, ◌/◌, ◌%◌, ◌<◌, ◌≤◌, List, length, slice_index, refl, subst, sym, ap, ◌∙◌, inl, inr, arith}
use Rattle.std.proofs.lemmas.Bool.{cases_lt}
use Rattle.std.proofs.lemmas.Grind.{same_number_lists}
use Rattle.aes_modes.specs.Cipher.{AreOctets, xor_blocks, cipher}
use Rattle.aes_modes.specs.Modes.{block_at, chained, cbc_of}
use Rattle.aes_modes.proofs.Squares.{xor_blocks_twice, IsBlock_xor_blocks, same_blocks}
use Rattle.aes_modes.proofs.Chaining.{block_at-at, length-block_at, IsBlock_block_at, chained_same, chained_next, chained-at, length-chained, length-cbc_of, cbc_of-at}
use Rattle.aes_modes.proofs.cbc.cbc_decrypt.Goals as goal

pub each-init : goal.each-init
unfolding chained
each-init c = record {
  octets = record { length = c.told-iv; octets = c.fits-iv };
  before = refl;
  done = λ i lt. absurd (omega arith);
  rest = λ i le. refl;
  only = λ plain long octets e i lt. absurd (omega arith);
}

-- ---- the block that an iteration writes

-- the octets before the block are as they were
kept : (c : goal.After-slice_known-in-each-1) (n : ℕ) → n ≤ c.each.n
    → chained c.args.key.now c.args.iv.now c.put_block.new.octets n
    ≡ chained c.args.key.now c.args.iv.now c.each.octets n
kept c n le = chained_same c.args.key.now c.args.iv.now c.put_block.new.octets c.each.octets n
    (λ i lt. c.put_block.ensures.before i (omega arith))

-- what is written is a plain block: its sum with the block before has the cipher that was read
written : (c : goal.After-slice_known-in-each-1) → block_at c.put_block.new.octets c.each.n
    ≡ xor_blocks c.decrypt_block.new.block c.each.before
written c =
    same_blocks (block_at c.put_block.new.octets c.each.n) c.xor_block.new.block
    (length-block_at c.put_block.new.octets c.each.n) c.xor_block.array_long
    (λ i lt. block_at-at c.put_block.new.octets c.each.n i lt ∙ c.put_block.ensures.block i lt)
    ∙ c.xor_block.ensures

-- the chain over what is written comes to the block that was read
enciphered : (c : goal.After-slice_known-in-each-1) → chained c.args.key.now c.args.iv.now c.put_block.new.octets
    (c.each.n + 1) ≡ c.block_at-cipher.result
enciphered c =
    let key = c.args.key.now in
    chained_next key c.args.iv.now c.put_block.new.octets c.each.n
    ∙ (λ k. cipher key (xor_blocks (written c k) ((kept c c.each.n (omega arith) ∙ sym c.each.invariant.before) k)))
    ∙ ap (cipher key) (xor_blocks_twice c.decrypt_block.new.block c.each.before c.decrypt_block.array_long)
    ∙ c.decrypt_block.ensures.encrypts_back

-- the block that was read is one of the octets that the call was given
read : (c : goal.After-slice_known-in-each-1) (i : ℕ) → i < 16
    → slice_index c.block_at-cipher.result i ≡ slice_index c.args.octets.now (16 * c.each.n + i)
read c i lt =
    ap (λ (b : List ℕ). slice_index b i) c.block_at-cipher.ensures.block
    ∙ block_at-at c.each.octets c.each.n i lt
    ∙ c.each.invariant.rest (16 * c.each.n + i) (omega arith)

-- a list with the octets of the call as its CBC has the block that is written
one_plain : (c : goal.After-slice_known-in-each-1) (plain : List ℕ) → length plain ≡ length c.args.octets.now
    → AreOctets plain
    → cbc_of c.args.key.now c.args.iv.now plain ≡ c.args.octets.now
    → block_at plain c.each.n ≡ block_at c.put_block.new.octets c.each.n
one_plain c plain long octets e =
    let key = c.args.key.now in
    let iv = c.args.iv.now in
    let n = c.each.n in
    let before : chained key iv plain n ≡ c.each.before =
    chained_same key iv plain c.each.octets n (λ i lt. c.each.invariant.only plain long octets e i lt)
    ∙ sym c.each.invariant.before in
    let next : chained key iv plain (n + 1) ≡ cipher key (xor_blocks (block_at plain n) c.each.before) =
    chained_next key iv plain n ∙ ap (λ (b : List ℕ). cipher key (xor_blocks (block_at plain n) b)) before in
    let given : chained key iv plain (n + 1) ≡ c.block_at-cipher.result =
    same_blocks (chained key iv plain (n + 1)) c.block_at-cipher.result (length-chained key iv plain (n + 1) c.told-iv)
    (ap length c.block_at-cipher.ensures.block ∙ length-block_at c.each.octets n)
    (λ i lt.
    sym (chained-at key iv plain n i lt)
    ∙ sym (cbc_of-at key iv plain (16 * n + i) (omega arith))
    ∙ ap (λ (l : List ℕ). slice_index l (16 * n + i)) e
    ∙ sym (read c i lt)) in
    let deciphered : c.decrypt_block.new.block ≡ xor_blocks (block_at plain n) c.each.before =
    c.decrypt_block.ensures.only (xor_blocks (block_at plain n) c.each.before)
    (IsBlock_xor_blocks (block_at plain n) c.each.before (IsBlock_block_at plain n octets) c.each.invariant.octets)
    (sym next ∙ given) in
    sym (
    written c
    ∙ ap (λ (b : List ℕ). xor_blocks b c.each.before) deciphered
    ∙ xor_blocks_twice (block_at plain n) c.each.before (length-block_at plain n)
    )

pub each-preserved : goal.each-preserved
each-preserved c =
    let key = c.args.key.now in
    let iv = c.args.iv.now in
    let old = c.args.octets.now in
    let new = c.put_block.new.octets in
    let n = c.each.n in
    let IsDone : ℕ → Type 0 = λ m. slice_index (chained key iv new (m / 16 + 1)) (m % 16) ≡ slice_index old m in
    record {
      octets = record {
        length = ap length c.block_at-cipher.ensures.block ∙ length-block_at c.each.octets n;
        octets = c.block_at-cipher.ensures.octets;
      };
      before = sym (enciphered c);
      done = λ i lt. elim (cases_lt i (16 * n)) [
        | inl earlier ↦ ap (λ (b : List ℕ). slice_index b (i % 16)) (kept c (i / 16 + 1) (omega arith))
            ∙ c.each.invariant.done i earlier
        | inr now ↦
            let place : 16 * n + (i - 16 * n) ≡ i = omega arith in
            subst IsDone place (
            chained-at key iv new n (i - 16 * n) (omega arith)
            ∙ ap (λ (b : List ℕ). slice_index b (i - 16 * n)) (enciphered c)
            ∙ read c (i - 16 * n) (omega arith)
            )
      ];
      rest = λ i le. c.put_block.ensures.after i (omega arith) ∙ c.each.invariant.rest i (omega arith);
      only = λ plain long octets e i lt. elim (cases_lt i (16 * n)) [
        | inl earlier ↦ c.each.invariant.only plain long octets e i earlier ∙ sym (c.put_block.ensures.before i earlier)
        | inr now ↦
            let place : 16 * n + (i - 16 * n) ≡ i = omega arith in
            let IsSame : ℕ → Type 0 = λ m. slice_index plain m ≡ slice_index new m in
            subst IsSame place (
            sym (block_at-at plain n (i - 16 * n) (omega arith))
            ∙ ap (λ (b : List ℕ). slice_index b (i - 16 * n)) (one_plain c plain long octets e)
            ∙ block_at-at new n (i - 16 * n) (omega arith)
            )
      ];
    }

pub returns-clause-encrypts_back : goal.returns-clause-encrypts_back
returns-clause-encrypts_back c =
    let cbc = cbc_of c.args.key.now c.args.iv.now c.each.octets in
    let long : length cbc ≡ length c.each.octets = length-cbc_of c.args.key.now c.args.iv.now c.each.octets in
    same_number_lists cbc c.args.octets.now (long ∙ c.each.auto.octets)
    (λ i lt. cbc_of-at c.args.key.now c.args.iv.now c.each.octets i (omega arith)
    ∙ c.each.invariant.done i (omega arith))

pub returns-clause-only : goal.returns-clause-only
returns-clause-only c = λ plain long octets e.
    same_number_lists c.each.octets plain (c.each.auto.octets ∙ sym long)
    (λ i lt. sym (c.each.invariant.only plain long octets e i (omega arith)))
