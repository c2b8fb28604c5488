use Rattle.std.proofs.Common.{subst, sym}
use Rattle.keyring_reader.specs.Keyring.{IsFault, tags_of}
use Rattle.keyring_reader.proofs.TagLemmas.{refused, finished}
use Rattle.keyring_reader.proofs.tags.read_tags.Goals as goal

pub returns-in-Ok-Finish-clause-tags : goal.returns-in-Ok-Finish-clause-tags
returns-in-Ok-Finish-clause-tags c =
    let gives = rw c.in-Ok-Finish.field-0-is at c.in-Ok-Finish.ensures.tag in
    finished c.args.bytes.now c.tags.tags.items c.tags.reader c.next.new.self c.tags.invariant gives

pub returns-in-Err-clause-fault : goal.returns-in-Err-clause-fault
returns-in-Err-clause-fault c =
    subst (λ why. IsFault why (tags_of c.args.bytes.now)) (sym c.tag_fault.ensures.fault)
    (refused c.args.bytes.now c.tags.tags.items c.tags.reader c.next.new.self c.in-Err.fault c.tags.invariant
    c.in-Err.ensures.tag)
