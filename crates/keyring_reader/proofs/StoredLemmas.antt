-- The block whose base64 a text is, and the block whose CBC is another.
use Rattle.std.proofs.Common.{◌≡◌, ◌≢◌, ℕ, nat_lt, cond, inl, inr, ◌+◌, ◌/◌, Bool, true, false, List, ◌++◌, length, drop, replicate, Option, Some, None, Result, Ok, Err, refl, sym, ap, ◌∙◌, arith, length-append, append-nil}
use Rattle.std.specs.Str.{bytes_eq}
use Rattle.std.proofs.lemmas.Slice.Eq.{bytes_eq-Decides}
use Rattle.std.proofs.lemmas.Bool.{cases_Bool}
use Rattle.std.proofs.lemmas.List.{drop_all}
use Rattle.base64.specs.Engines.{standard}
use Rattle.base64.specs.GeneralPurpose.{engine_symbols, decode_of, decoded_bytes_of, decode_slice_of}
use Rattle.base64.specs.Decode.{decode_outcome, or_error, or_else, groups_before_last, bytes_fit}
use Rattle.base64.specs.declared.decode.DecodeError.{DecodeError}
use Rattle.base64.specs.declared.decode.DecodeSliceError.{DecodeSliceError}
use Rattle.base64.specs.declared.decode.DecodeSliceError.TheVariants.{OutputSliceTooSmall}
use Rattle.base64.proofs.EngineFacts.{decode_of_strict, decode_of-encode_of}
use Rattle.base64.proofs.RoundTrip.{length-encode_symbols}
use Rattle.aes_modes.specs.Cipher.{AreOctets, IsBlock}
use Rattle.aes_modes.specs.Modes.{cbc_of}
use Rattle.base64.specs.Rfc4648.{encode_symbols, padding_len, unpadded_len}
use Rattle.keyring_reader.specs.Keys.{base64_of, stored_block, unwrapped}
use Rattle.keyring_reader.proofs.BlockLemmas.{found_block, no_block, found_passes}

fits_if : (small : Bool) (n : ℕ) → cond small (Err OutputSliceTooSmall) (Ok n) ≡ Ok 16 → n ≡ 16
fits_if true n is = cc
fits_if false n is = cc

-- a slice of sixteen octets is filled where there is no error, and sixteen octets to write
filled : (error : Option DecodeError) (n : ℕ) → or_error error (bytes_fit n 16) ≡ Ok 16 → (error ≡ None) × (n ≡ 16)
filled None n is = (refl, fits_if (nat_lt 16 n) n is)
filled (Some e) n is = cc

-- what a call on a slice of sixteen octets answers, by the errors of the parts and the number of octets
abbrev answer_of : Option DecodeError → Option DecodeError → Bool → ℕ → Result ℕ DecodeSliceError
answer_of lone rest small n = or_error lone (cond small (Err OutputSliceTooSmall) (or_error rest (bytes_fit n 16)))

answered : (lone rest : Option DecodeError) (small : Bool) (n : ℕ) → answer_of lone rest small n ≡ Ok 16
    → (or_else lone rest ≡ None) × (n ≡ 16)
answered (Some e) rest small n is = cc
answered None rest true n is = cc
answered None rest false n is = filled rest n is

answers : (lone rest : Option DecodeError) (small : Bool) (n : ℕ) → or_else lone rest ≡ None → small ≡ false → n ≡ 16
    → answer_of lone rest small n ≡ Ok 16
answers (Some e) rest small n none room length_is = cc
answers None (Some e) small n none room length_is = cc
answers None None small n none room length_is = rw (room, length_is) refl

outcome_ok : (error : Option DecodeError) (octets b : List ℕ) → decode_outcome error octets ≡ Ok b → (error ≡ None)
    × (octets ≡ b)
outcome_ok None octets b is = (refl, cc)
outcome_ok (Some e) octets b is = cc

decodes : (s : List ℕ) → decode_slice_of standard s 16 ≡ Ok 16
    → (decode_of standard s ≡ Ok (decoded_bytes_of standard s)) × (length (decoded_bytes_of standard s) ≡ 16)
decodes s is =
    let parts = answered _ _ _ _ is in
    (ap (λ (error : Option DecodeError). decode_outcome error (decoded_bytes_of standard s)) parts.0, parts.1)

length-base64_of : (b : List ℕ) → length b ≡ 16 → length (base64_of b) ≡ 24
length-base64_of b is =
    length-append (encode_symbols (engine_symbols standard) b) (replicate {A = ℕ} (padding_len (length b)) 61)
    ∙ ap (λ (n : ℕ). n + length {A = ℕ} (replicate (padding_len (length b)) 61))
    (length-encode_symbols (engine_symbols standard) b)
    ∙ ap (λ (n : ℕ). unpadded_len n + length {A = ℕ} (replicate (padding_len n) 61)) is

encoding_decodes : (b : List ℕ) → IsBlock b → decode_of standard (base64_of b) ≡ Ok b
encoding_decodes b is = decode_of-encode_of standard b refl is.octets

encoding_fills : (b : List ℕ) → IsBlock b → decode_slice_of standard (base64_of b) 16 ≡ Ok 16
encoding_fills b is =
    let parts = outcome_ok _ _ _ (encoding_decodes b is) in
    answers _ _ _ _ parts.0
    (ap (λ (n : ℕ). nat_lt (16 / 3) (groups_before_last n)) (length-base64_of b is.length))
    (ap length parts.1 ∙ is.length)

same_ok : (a b : List ℕ) (result : Result (List ℕ) DecodeError) → result ≡ Ok a → result ≡ Ok b → a ≡ b
same_ok a b result is other = cc

is_stored : (s b : List ℕ) → AreOctets s → IsBlock b → decode_of standard s ≡ Ok b → stored_block s ≡ Some b
unfolding stored_block
is_stored s b octets is decoded =
    found_block (λ block. bytes_eq (base64_of block) s) b is
    ((bytes_eq-Decides (base64_of b) s).1 (sym (decode_of_strict standard s b (refl, refl) octets decoded)))
    (λ other is_other passes.
    same_ok other b (decode_of standard s)
    (ap (decode_of standard) (sym ((bytes_eq-Decides (base64_of other) s).0 passes)) ∙ encoding_decodes other is_other)
    decoded)

pub stored_found : (s out old : List ℕ) → decode_slice_of standard s 16 ≡ Ok 16 → AreOctets s
    → AreOctets (decoded_bytes_of standard s)
    → out ≡ decoded_bytes_of standard s ++ drop (length (decoded_bytes_of standard s)) old → length old ≡ 16
    → stored_block s ≡ Some out
stored_found s out old is octets block_octets written long =
    let parts = decodes s is in
    let d : List ℕ = decoded_bytes_of standard s in
    let same : out ≡ d = written ∙ ap (λ (rest : List ℕ). d ++ rest)
    (drop_all (length d) old (omega (arith, parts.1, long))) ∙ append-nil d in
    is_stored s d octets (record { length = parts.1; octets = block_octets }) parts.0
    ∙ ap (λ (x : List ℕ). Some x) (sym same)

pub stored_not : (s : List ℕ) (answer : Result ℕ DecodeSliceError) → answer ≡ decode_slice_of standard s 16
    → answer ≢ Ok 16 → stored_block s ≡ None
unfolding stored_block
stored_not s answer is other =
    no_block (λ block. bytes_eq (base64_of block) s) (λ b is_block. elim (cases_Bool (bytes_eq (base64_of b) s)) [
      | inl passes ↦
          absurd (other (is ∙ ap (λ (text : List ℕ). decode_slice_of standard text 16)
          (sym ((bytes_eq-Decides (base64_of b) s).0 passes)) ∙ encoding_fills b is_block))
      | inr fails ↦ fails
    ])

-- the one block whose CBC is this
pub unwrapped_is : (key vector plain wrapped : List ℕ) → IsBlock plain → cbc_of key vector plain ≡ wrapped
    → ((other : List ℕ) → length other ≡ length wrapped → AreOctets other → cbc_of key vector other ≡ wrapped
    → plain ≡ other)
    → length wrapped ≡ 16 → unwrapped key vector wrapped ≡ Some plain
unfolding unwrapped
unwrapped_is key vector plain wrapped is encrypts only length_is =
    found_block (λ block. bytes_eq (cbc_of key vector block) wrapped) plain is
    ((bytes_eq-Decides (cbc_of key vector plain) wrapped).1 encrypts)
    (λ other is_other passes.
    sym (only other (is_other.length ∙ sym length_is) is_other.octets
    ((bytes_eq-Decides (cbc_of key vector other) wrapped).0 passes)))

pub stored_once : (b : List ℕ) → IsBlock b → stored_block (base64_of b) ≡ Some b
unfolding stored_block
stored_once b is =
    found_block (λ block. bytes_eq (base64_of block) (base64_of b)) b is
    ((bytes_eq-Decides (base64_of b) (base64_of b)).1 refl)
    (λ other is_other passes.
    same_ok other b (decode_of standard (base64_of b))
    (ap (decode_of standard) (sym ((bytes_eq-Decides (base64_of other) (base64_of b)).0 passes))
    ∙ encoding_decodes other is_other) (encoding_decodes b is))

pub stored_only : (text b : List ℕ) → stored_block text ≡ Some b → base64_of b ≡ text
unfolding stored_block
stored_only text b is =
    (bytes_eq-Decides (base64_of b) text).0 (found_passes (λ block. bytes_eq (base64_of block) text) b is)

pub wrapped_only : (key vector wrapped plain : List ℕ) → unwrapped key vector wrapped ≡ Some plain
    → cbc_of key vector plain ≡ wrapped
unfolding unwrapped
wrapped_only key vector wrapped plain is =
    (bytes_eq-Decides (cbc_of key vector plain) wrapped).0 (found_passes
    (λ block. bytes_eq (cbc_of key vector block) wrapped) plain is)
