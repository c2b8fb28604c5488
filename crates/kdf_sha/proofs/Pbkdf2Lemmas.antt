-- The codes of a block and the blocks of a derived key, one after the other.
use Rattle.std.proofs.Common.{◌≡◌, ℕ, suc, zero, ◌+◌, ◌-◌, ◌*◌, ◌<◌, ◌≤◌, List, ◌++◌, length, take, drop, arith, ap, ◌∙◌, sym, refl, rules, add-one}
use Rattle.std.proofs.lemmas.List.{length-append, places, same_lists, take_all}
use Rattle.std.specs.List.{fold}
use Rattle.std.specs.Int.{div_ceil}
use Rattle.sha2.proofs.Facts256.{length-sha256}
use Rattle.kdf_sha.specs.Xor.{xored}
use Rattle.kdf_sha.specs.Hmac.{hmac_of}
use Rattle.kdf_sha.specs.Pbkdf2.{iterations, xor_sum, block_of, blocks_of}
use Rattle.kdf_sha.proofs.XorLemmas.{length-xored}

pub length-hmac_of : (key text : List ℕ) → length (hmac_of key text) ≡ 32
unfolding hmac_of
length-hmac_of key text = length-sha256 _

-- the sum of codes is as long as a code
length-fold : (password text sum : List ℕ) (count : ℕ) → length sum ≡ 32
    → length (fold xored sum (iterations password text count)) ≡ 32
length-fold password text sum zero long = long
length-fold password text sum (suc count) long =
    length-fold password (hmac_of password text) (xored sum (hmac_of password text)) count
    (length-xored sum (hmac_of password text) (long ∙ sym (length-hmac_of password text)) ∙ long)

length-xor_sum : (password text : List ℕ) (count : ℕ) → length (xor_sum (iterations password text count)) ≡ 32
length-xor_sum password text zero = refl
length-xor_sum password text (suc count) =
    length-fold password (hmac_of password text) (hmac_of password text) count (length-hmac_of password text)

pub length-block_of : (password salt : List ℕ) (rounds i : ℕ) → length (block_of password salt rounds i) ≡ 32
unfolding block_of
length-block_of password salt rounds i = length-xor_sum password _ rounds

pub length-blocks_of : (password salt : List ℕ) (rounds n : ℕ) → length (blocks_of password salt rounds n) ≡ 32 * n
length-blocks_of password salt rounds zero = refl
length-blocks_of password salt rounds (suc n) =
    omega (
      arith,
      length-append (blocks_of password salt rounds n) (block_of password salt rounds (n + 1)),
      length-blocks_of password salt rounds n,
      length-block_of password salt rounds (n + 1),
    )

-- the first code begins the sum
pub first_round : (password text first : List ℕ) (count : ℕ) → 1 ≤ count → first ≡ hmac_of password text
    → fold xored first (iterations password first (count - 1)) ≡ xor_sum (iterations password text count)
first_round password text first zero some is = absurd (omega (arith, some))
first_round password text first (suc count) some is =
    let less : suc count - 1 ≡ count = omega arith in rw (less, is) refl

-- the sum goes on with the next code
pub one_round : (password code sum : List ℕ) (count now : ℕ) (next : List ℕ) → now < count
    → next ≡ hmac_of password code
    → fold xored (xored sum next) (iterations password next (count - (now + 1)))
    ≡ fold xored sum (iterations password code (count - now))
one_round password code sum count now next below is =
    let less : count - now ≡ suc (count - (now + 1)) = omega arith in
    rw (less, is) refl

-- a block is put behind those before, and both are cut to the length
pub one_block : (out front block : List ℕ) (i : ℕ) → length front ≡ 32 * i → length block ≡ 32 → 32 * i < length out
    → take (32 * i) out ≡ take (length out) front
    → take (32 * (i + 1)) (take (32 * i) out ++ take (length out - 32 * i) block ++ drop (32 * i + 32) out)
    ≡ take (length out) (front ++ block)
one_block out front block i front_long block_long below same =
    same_lists _ _ (search (rules, places)) (λ k d h. grind (arith, places))

pub blocks_more : (password salt : List ℕ) (rounds i : ℕ) (old new block : List ℕ) → 32 * i < length old
    → block ≡ block_of password salt rounds (i + 1) → take (32 * i) old
    ≡ take (length old) (blocks_of password salt rounds i)
    → new ≡ take (32 * i) old ++ take (length old - 32 * i) block ++ drop (32 * i + 32) old → length new ≡ length old
    → take (32 * (i + 1)) new ≡ take (length new) (blocks_of password salt rounds (i + 1))
blocks_more password salt rounds i old new block below is same put long =
    let block_long : length block ≡ 32 = ap length is ∙ length-block_of password salt rounds (i + 1) in
    let put_is = one_block old (blocks_of password salt rounds i) block i (length-blocks_of password salt rounds i)
    block_long below same in
    rw long (ap (take (32 * (i + 1))) put ∙ put_is ∙ ap (λ (last : List ℕ). take (length old)
    (blocks_of password salt rounds i ++ last)) is
    ∙ ap (λ (n : ℕ). take (length old) (blocks_of password salt rounds n)) (sym (add-one i)))

-- once all blocks are put, all is said
pub blocks_all : (password salt : List ℕ) (rounds i n : ℕ) (out : List ℕ) → i ≡ div_ceil n 32 → length out ≡ n
    → take (32 * i) out ≡ take (length out) (blocks_of password salt rounds i)
    → out ≡ take n (blocks_of password salt rounds (div_ceil n 32))
blocks_all password salt rounds i n out end long same =
    let whole : length out ≤ 32 * i = omega (arith, end, long) in
    sym (take_all (32 * i) out whole) ∙ same ∙ rw (long, end) refl
