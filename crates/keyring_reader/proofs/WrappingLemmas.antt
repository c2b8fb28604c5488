-- The key of a password and the first octets of a hash are blocks.
use Rattle.std.proofs.Common.{◌≡◌, ℕ, zero, suc, ◌<◌, List, [], ◌∷◌, ◌++◌, length, take, replicate, slice_index, bit_xor, fold, ◌∙◌, arith, lit<, length-take-le}
use Rattle.std.specs.List.{AllByRecursion, zip}
use Rattle.std.specs.Int.{w32, to_be_bytes}
use Rattle.std.proofs.lemmas.List.{length-map, length-replicate}
use Rattle.std.proofs.lemmas.Nat.{xor_of_8}
use Rattle.std.proofs.lemmas.Slice.Zip.{length-zip}
use Rattle.sha2.specs.Sha256.{digest_bytes, sha256}
use Rattle.sha2.proofs.Facts256.{length-sha256}
use Rattle.aes_modes.specs.Cipher.{IsBlock}
use Rattle.kdf_sha.specs.Xor.{xored}
use Rattle.kdf_sha.specs.Hmac.{hmac_of}
use Rattle.kdf_sha.specs.Pbkdf2.{iterations, xor_sum, block_of, pbkdf2_of}
use Rattle.keyring_reader.specs.Keys.{salt, password_key, short_hash, IsWrapping}

abbrev Octets : List ℕ → Type 0
Octets xs = AllByRecursion (λ (x : ℕ). x < 256) xs

both : (xs ys : List ℕ) → Octets xs → Octets ys → Octets (xs ++ ys)
both [] ys first second = second
both (x ∷ xs) ys first second = (first.0, both xs ys first.1 second)

some : (n : ℕ) (xs : List ℕ) → Octets xs → Octets (take n xs)
some zero xs all = tt
some (suc n) [] all = tt
some (suc n) (x ∷ xs) all = (all.0, some n xs all.1)

zeros : (n : ℕ) → Octets (replicate n 0)
zeros zero = tt
zeros (suc n) = (lit< tt, zeros n)

summed : (xs ys : List ℕ) → Octets xs → Octets ys → Octets (xored xs ys)
summed [] ys first second = tt
summed (x ∷ xs) [] first second = tt
summed (x ∷ xs) (y ∷ ys) first second = (xor_of_8 x y first.0 second.0, summed xs ys first.1 second.1)

at_each : (xs : List ℕ) → Octets xs → (i : ℕ) → slice_index xs i < 256
at_each [] all i = lit< tt
at_each (x ∷ xs) all zero = all.0
at_each (x ∷ xs) all (suc i) = at_each xs all.1 i

-- the first octets of a code
first_block : (code : List ℕ) → length code ≡ 32 → Octets code → IsBlock (take 16 code)
first_block code long all = record {
  length = length-take-le 16 code (omega (arith, long));
  octets = at_each (take 16 code) (some 16 code all);
}

-- ---- codes

four : (n : ℕ) → Octets (to_be_bytes w32 n)
four n = (omega arith, (omega arith, (omega arith, (omega arith, tt))))

words : (h : List ℕ) (n : ℕ) → Octets (digest_bytes h n)
unfolding digest_bytes
words h zero = tt
words h (suc n) = both (digest_bytes h n) (to_be_bytes w32 (slice_index h n)) (words h n) (four (slice_index h n))

hashed : (m : List ℕ) → Octets (sha256 m)
unfolding sha256
hashed m = words _ 8

record IsCode (code : List ℕ) : Type 0 where
  long : length code ≡ 32
  octets : Octets code

keyed : (key text : List ℕ) → IsCode (hmac_of key text)
unfolding hmac_of
keyed key text = record { long = length-sha256 _; octets = hashed _ }

two_codes : (a b : List ℕ) → IsCode a → IsCode b → IsCode (xored a b)
two_codes a b first second = record {
  long =
      length-map (zip a b) (λ (pair : ℕ × ℕ). bit_xor pair.0 pair.1)
      ∙ omega (arith, length-zip a b, first.long, second.long);
  octets = summed a b first.octets second.octets;
}

more_codes : (password text sum : List ℕ) (count : ℕ) → IsCode sum
    → IsCode (fold xored sum (iterations password text count))
more_codes password text sum zero is = is
more_codes password text sum (suc count) is =
    more_codes password (hmac_of password text) (xored sum (hmac_of password text)) count
    (two_codes sum (hmac_of password text) is (keyed password text))

all_codes : (password text : List ℕ) (count : ℕ) → IsCode (xor_sum (iterations password text count))
all_codes password text zero = record { long = length-replicate {A = ℕ} 32 0; octets = zeros 32 }
all_codes password text (suc count) =
    more_codes password (hmac_of password text) (hmac_of password text) count (keyed password text)

derived : (password text : List ℕ) (rounds : ℕ) → IsCode (block_of password text rounds 1)
unfolding block_of
derived password text rounds = all_codes password _ rounds

-- ---- keys

password_block : (password : List ℕ) → IsBlock (password_key password)
unfolding password_key pbkdf2_of
password_block password =
    let code = derived password salt 65536 in first_block (block_of password salt 65536 1) code.long code.octets

hash_block : (text : List ℕ) → IsBlock (short_hash text)
unfolding short_hash
hash_block text = first_block (sha256 text) (length-sha256 text) (hashed text)

pub is_wrapping : (password created : List ℕ)
    → IsWrapping (record { key = password_key password; vector = short_hash created })
is_wrapping password created = record { is_key = password_block password; is_vector = hash_block created }
