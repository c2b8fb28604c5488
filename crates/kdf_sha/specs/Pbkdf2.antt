-- Statement: PBKDF2 of RFC 8018, section 5.2, with HMAC-SHA-256 as its pseudorandom function.
use Rattle.std.specs.Prelude.{ℕ, zero, suc, ◌+◌, List, [], ◌∷◌, ◌++◌, fold, take, replicate}
use Rattle.std.specs.Int.{w32, to_be_bytes, div_ceil}
use Rattle.kdf_sha.specs.Xor.{xored}
use Rattle.kdf_sha.specs.Hmac.{hmac_of}

-- hLen: the octets of one code
abbrev pub code_octets : ℕ
code_octets = 32

-- U_1, U_2, .. U_c: the code of this text, then each the code of the one before
abbrev pub iterations : List ℕ → List ℕ → ℕ → List (List ℕ)
iterations password text zero = []
iterations password text (suc count) =
    hmac_of password text ∷ iterations password (hmac_of password text) count

-- the XOR sum of a list of codes
abbrev pub xor_sum : List (List ℕ) → List ℕ
xor_sum [] = replicate code_octets 0
xor_sum (code ∷ codes) = fold xored code codes

-- T_i = F(P, S, c, i): U_1 XOR U_2 XOR .. XOR U_c, begun from the salt and i in four octets, the highest first
unfoldable pub block_of : List ℕ → List ℕ → ℕ → ℕ → List ℕ
block_of password salt rounds i = xor_sum (iterations password (salt ++ to_be_bytes w32 i) rounds)

-- T_1 ++ T_2 ++ .. ++ T_n
abbrev pub blocks_of : List ℕ → List ℕ → ℕ → ℕ → List ℕ
blocks_of password salt rounds zero = []
blocks_of password salt rounds (suc n) =
    blocks_of password salt rounds n ++ block_of password salt rounds (n + 1)

-- the derived key of so many octets: the first of enough blocks
unfoldable pub pbkdf2_of : List ℕ → List ℕ → ℕ → ℕ → List ℕ
pbkdf2_of password salt rounds octets = take octets (blocks_of password salt rounds (div_ceil octets code_octets))
