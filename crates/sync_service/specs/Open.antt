-- Statement: challenges that wait for their answers.
use Rattle.std.specs.Prelude.{ℕ, ◌==◌, ◌&&◌, if◌then◌else◌, Bool, List, Option, Some, None}
use Rattle.std.specs.Map.{lookup}
use Rattle.knx_base.specs.declared.address.IndAddr.{IndAddr}
use Rattle.sync_service.specs.declared.pending.OpenChallenge.{OpenChallenge}

-- ---- of one device, which asks one peer at a time

abbrev pub Pending : Type 0
Pending = Option OpenChallenge

-- the challenge that a peer was asked, where it is the one that was asked last
abbrev pub asked_of : Pending → IndAddr → Option (List ℕ)
asked_of None source = None
asked_of (Some last) source = if last.peer.0 == source.0 then Some last.challenge else None

-- ---- of all devices

abbrev pub same_pair : IndAddr → IndAddr → IndAddr × IndAddr → Bool
same_pair requester responder other = requester.0 == other.0.0 && responder.0 == other.1.0

-- a requester and a responder with their challenge
abbrev pub Book : Type 0
Book = List ((IndAddr × IndAddr) × List ℕ)

-- the challenge of a requester to a responder, or none
abbrev pub Asked : Type 0
Asked = IndAddr → IndAddr → Option (List ℕ)

-- those of a book
abbrev pub asked_in : Book → Asked
asked_in book requester responder = lookup (same_pair requester responder) book

abbrev pub nobody_asked : Asked
nobody_asked requester responder = None

-- with this challenge, or none, of a pair, and the same for every other pair
abbrev pub with_pair : IndAddr → IndAddr → Option (List ℕ) → Asked → Asked
with_pair requester responder challenge before asker asked =
    if same_pair requester responder (asker, asked) then challenge else before asker asked
