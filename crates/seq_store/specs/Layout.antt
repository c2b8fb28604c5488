-- Statement: where a memory keeps its numbers. This file and Ring.antt alone know places; all else goes by the names
-- that it gives.
--
-- Value 0 of a memory of so many lanes is the last reserved number, and value 1 + i is the mark of lane i. A memory is
-- a ring of records in two banks, with an index of one octet in each record.
use Rattle.std.specs.Prelude.{ℕ, ◌+◌, ◌*◌, List, [], ◌∷◌, ◌++◌, length, replicate, slice_index, Option}
use Rattle.knx_base.specs.Number.{octets_of}
use Rattle.nvm_model.specs.Gate.{open_octet}
use Rattle.nvm_model.specs.Write.{Write}
use Rattle.seq_store.specs.Ring.{bank_size, bank_body, ring_value, ring_writes}

-- the most lanes that a memory may have
abbrev pub most_lanes : ℕ
most_lanes = 64

-- the octets of a record's index
abbrev pub width : ℕ
width = 1

-- the number of octets of a memory of so many lanes: two banks of 1 + lanes values
abbrev pub store_size : ℕ → ℕ
store_size lanes = 286 + 12 * lanes

-- the place of what keeps this value: the ring has all of them, or none
unfoldable pub place_of : ℕ → ℕ → ℕ
place_of lanes v = 0

-- this value of an image, or none where no bank is open
unfoldable pub value_of : ℕ → List ℕ → ℕ → Option ℕ
value_of lanes image v = ring_value width (1 + lanes) 0 image v

-- the writes that raise this value to a greater number
unfoldable pub raise_writes : ℕ → List ℕ → ℕ → ℕ → List Write
raise_writes lanes image v n = ring_writes width (1 + lanes) 0 image v n

-- a new memory with this last reserved number and these marks: the first bank is open, and all else is zero
unfoldable pub formatted_memory : ℕ → List ℕ → List ℕ
formatted_memory reserved marks =
    open_octet ∷ bank_body width (1 + length marks) 0 (slice_index (reserved ∷ marks))
    ++ replicate (bank_size width (1 + length marks)) 0

-- the octets of numbers, one after another, and the writes of them from a place on
unfoldable pub each_octets : List ℕ → List ℕ
each_octets [] = []
each_octets (n ∷ ns) = octets_of n ++ each_octets ns

unfoldable pub each_writes : ℕ → List ℕ → List Write
each_writes at [] = []
each_writes at (n ∷ ns) = record { at = at; bytes = octets_of n } ∷ each_writes (at + 6) ns

-- Gate, generation and first number in one write, then each mark. Behind the numbers of the first bank all octets are
-- zero: 271, and six for each mark.
abbrev pub head_write : ℕ → Write
head_write reserved = record { at = 0; bytes = open_octet ∷ replicate 8 0 ++ octets_of reserved }

abbrev pub zeros_write : ℕ → Write
zeros_write lanes = record { at = 15 + 6 * lanes; bytes = replicate 271 0 }

unfoldable pub formatting_writes : ℕ → List ℕ → List Write
formatting_writes reserved marks =
    ((head_write reserved ∷ each_writes 15 marks) ++ zeros_write (length marks) ∷ [])
    ++ each_writes (286 + 6 * length marks) (replicate (length marks) 0)
