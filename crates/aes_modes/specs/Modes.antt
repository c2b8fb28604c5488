-- Statement: modes of operation of AES-128 over a list of octets: CBC (SP 800-38A, section 6.2), CBC-MAC, and a
-- counter stream (SP 800-38A, section 6.5).
use Rattle.std.specs.Prelude.{◌≡◌, ℕ, zero, suc, ◌+◌, ◌-◌, ◌*◌, ◌/◌, ◌%◌, List, ◌++◌, length, map, replicate, slice_index, slice_set}
use Rattle.std.specs.List.{range_with_len}
use Rattle.aes_modes.specs.Octet.{◌⊕◌}
use Rattle.aes_modes.specs.Cipher.{square, xor_blocks, cipher}

-- block i of the octets p, with zeros past their end
unfoldable pub block_at : List ℕ → ℕ → List ℕ
block_at p i = square (λ r c. slice_index p (16 * i + (r + 4 * c)))

-- cipher block n, counted from 1: the cipher of the XOR of its plain block and of the cipher block
-- before it, where block 0 is the initialization vector
unfoldable pub chained : List ℕ → List ℕ → List ℕ → ℕ → List ℕ
chained k iv p zero = iv
chained k iv p (suc n) = cipher k (xor_blocks (block_at p n) (chained k iv p n))

-- CBC of whole blocks: octet j is octet j % 16 of cipher block j / 16 + 1
unfoldable pub cbc_of : List ℕ → List ℕ → List ℕ → List ℕ
cbc_of k iv p =
    map (λ j. slice_index (chained k iv p (j / 16 + 1)) (j % 16)) (range_with_len 0 (length p))

-- sixteen zeros
abbrev pub zero_block : List ℕ
zero_block = replicate 16 0

-- the octets m, filled with zeros to whole blocks
unfoldable pub padded : List ℕ → List ℕ
padded m = m ++ replicate ((16 - length m % 16) % 16) 0

-- CBC-MAC: the last cipher block of the filled octets, from sixteen zeros
unfoldable pub mac_of : List ℕ → List ℕ → List ℕ
mac_of k m = chained k zero_block (padded m) (length (padded m) / 16)

-- octet j of the counter stream: octet j % 16 of the cipher of the counter block j / 16, which is ctr0
-- with that number as its last octet
unfoldable pub stream_of : List ℕ → List ℕ → ℕ → ℕ
stream_of k ctr0 j = slice_index (cipher k (slice_set ctr0 15 (j / 16))) (j % 16)

-- the octets p, each with its octet of the stream added
unfoldable pub with_stream : List ℕ → List ℕ → List ℕ → List ℕ
with_stream k ctr0 p =
    map (λ j. slice_index p j ⊕ stream_of k ctr0 j) (range_with_len 0 (length p))

-- what a contract sees of a CbcMac: its key, the block that is enciphered next, and how many octets
-- it has taken into that block
pub record MacState : Type 0 where
  pub key : List ℕ
  pub block : List ℕ
  pub used : ℕ

-- These octets were fed to it, one after the other, under its key: its block is the XOR of the octets
-- after the last whole block and of the last cipher block.
pub record WasFed (mac : MacState) (fed : List ℕ) : Type 0 where
  pub used : mac.used ≡ length fed % 16
  pub block : mac.block ≡ xor_blocks (block_at fed (length fed / 16)) (chained mac.key zero_block fed (length fed / 16))
