-- Statement: the cipher applied to its own result.
use Rattle.std.specs.Prelude.{ℕ, zero, suc, List}
use Rattle.aes_modes.specs.Cipher.{cipher}

-- the block after n applications of the cipher under the key k
unfoldable pub cipher_repeated : List ℕ → List ℕ → ℕ → List ℕ
cipher_repeated k b zero = b
cipher_repeated k b (suc n) = cipher k (cipher_repeated k b n)
