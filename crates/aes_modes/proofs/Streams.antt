-- Octets with the counter stream added.
use Rattle.std.proofs.Common.{◌≡◌, ℕ, ◌+◌, ◌*◌, ◌/◌, ◌%◌, ◌<◌, List, length, slice_index, slice_set, ap, ◌∙◌, arith}
use Rattle.std.proofs.lemmas.List.FromFn.{get_or-map-range_with_len, length-map-range_with_len}
use Rattle.std.proofs.lemmas.Grind.{same_number_lists}
use Rattle.aes_modes.specs.Octet.{◌⊕◌}
use Rattle.aes_modes.specs.Cipher.{cipher}
use Rattle.aes_modes.specs.Modes.{stream_of, with_stream}
use Rattle.aes_modes.proofs.Field.{⊕_twice}

pub length-with_stream : (k ctr0 p : List ℕ) → length (with_stream k ctr0 p) ≡ length p
unfolding with_stream
length-with_stream k ctr0 p = length-map-range_with_len (λ j. slice_index p j ⊕ stream_of k ctr0 j) 0 (length p)

pub with_stream-at : (k ctr0 p : List ℕ) (i : ℕ) → i < length p
    → slice_index (with_stream k ctr0 p) i ≡ slice_index p i ⊕ stream_of k ctr0 i
unfolding with_stream
with_stream-at k ctr0 p i lt =
    get_or-map-range_with_len (λ j. slice_index p j ⊕ stream_of k ctr0 j) 0 (length p) i i 0 lt (omega arith)

-- the stream that is added twice is gone
pub with_stream-twice : (k ctr0 p : List ℕ) → with_stream k ctr0 (with_stream k ctr0 p) ≡ p
with_stream-twice k ctr0 p =
    let once = with_stream k ctr0 p in
    let long : length once ≡ length p = length-with_stream k ctr0 p in
    let twice : length (with_stream k ctr0 once) ≡ length once = length-with_stream k ctr0 once in
    same_number_lists (with_stream k ctr0 once) p (twice ∙ long) (λ i lt.
    with_stream-at k ctr0 once i (omega arith)
    ∙ ap (λ x. x ⊕ stream_of k ctr0 i) (with_stream-at k ctr0 p i (omega arith))
    ∙ ⊕_twice (slice_index p i) (stream_of k ctr0 i))

-- octet i of block n of the stream
pub stream_of-at : (k ctr0 : List ℕ) (n i : ℕ) → i < 16 → stream_of k ctr0 (16 * n + i)
    ≡ slice_index (cipher k (slice_set ctr0 15 n)) i
unfolding stream_of
stream_of-at k ctr0 n i lt =
    let block : (16 * n + i) / 16 ≡ n = omega arith in
    let place : (16 * n + i) % 16 ≡ i = omega arith in
    λ j. slice_index (cipher k (slice_set ctr0 15 (block j))) (place j)
