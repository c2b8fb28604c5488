use Rattle.std.proofs.Common.{◌≡◌, Ok, IfOk, IfErr, sym, ap, subst, ◌∙◌, rules}
use Rattle.keyring_reader.specs.Keyring.{keyring_under, keyring_of, IsFault}
use Rattle.tag_text.specs.declared.tag.TagFault.TheVariants as tag
use Rattle.keyring_reader.proofs.NoTagLemmas.{none_wrapped}
use Rattle.keyring_reader.proofs.KeyringLemmas.{no_tags, of_tags}
use Rattle.keyring_reader.proofs.keyring.read_keyring.Goals as goal

pub returns-in_err-tags-clause-fault : goal.returns-in_err-tags-clause-fault
returns-in_err-tags-clause-fault c =
    let refused : IsFault c.in_err-tags.field-0.0 (keyring_of c.args.bytes.now c.args.password.now) =
    no_tags c.args.bytes.now c.args.password.now c.in_err-tags.field-0.0 c.in_err-tags.ensures.fault in
    search (rules, refused)

pub returns-clause-rows : goal.returns-clause-rows
returns-clause-rows c =
    subst (λ found. IfOk c.keyring_under.result (λ keyring. found ≡ Ok keyring))
    (sym (of_tags c.args.bytes.now c.args.password.now c.in_ok-tags.tags.items c.in_ok-tags.ensures.tags
    ∙ ap (λ key. keyring_under key c.in_ok-tags.tags.items) (sym c.password_key.ensures)
    ∙ ap (keyring_under c.password_key.result) (sym c.deref.ensures.value)))
    c.keyring_under.ensures.rows

pub returns-clause-fault : goal.returns-clause-fault
returns-clause-fault c =
    subst (λ found. IfErr c.keyring_under.result (λ why. IsFault why found))
    (sym (of_tags c.args.bytes.now c.args.password.now c.in_ok-tags.tags.items c.in_ok-tags.ensures.tags
    ∙ ap (λ key. keyring_under key c.in_ok-tags.tags.items) (sym c.password_key.ensures)
    ∙ ap (keyring_under c.password_key.result) (sym c.deref.ensures.value)))
    c.keyring_under.ensures.fault

pub returns-clause-memory : goal.returns-clause-memory
returns-clause-memory c =
    none_wrapped c.password_key.result c.deref.result.now tag.NoMemory c.keyring_under.result
    c.keyring_under.ensures.fault
