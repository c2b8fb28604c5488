-- What the parts of a keyring that its reader hands on show: plumbing for proofs.
use Rattle.keyring_reader.specs.declared.form.Root as code
use Rattle.keyring_reader.specs.declared.form.Stamps as code_stamps
use Rattle.keyring_reader.specs.Keyring.{Root, Stamps}

abbrev pub shown_root : code.Root → Root
shown_root root = record { attributes = root.attributes.now; place = root.place }

abbrev pub shown_stamps : code_stamps.Stamps → Stamps
shown_stamps stamps = record { created = stamps.created.now; signature = stamps.signature.now }
