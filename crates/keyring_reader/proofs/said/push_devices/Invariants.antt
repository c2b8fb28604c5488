use Rattle.std.proofs.Common.{length, ◌==◌}
use Rattle.std.specs.List.{slice_split}
use Rattle.keyring_reader.proofs.SenderLemmas.{HasRead}
use Rattle.keyring_reader.proofs.said.push_devices.Given as goal

abbrev pub invariant-words : goal.invariant-words
invariant-words l = record {
  can : (goal.iterator-words).can_next l.word-iterator;
  finite : (goal.iterator-words).is_finite l.word-iterator;
  read : HasRead l.place (slice_split (λ octet. octet == 32) l.text) (length l.yielded) l.initial.senders l.senders;
}
