-- What follows on an answer, and what an answer gives way to. This is statement.
use Rattle.std.specs.Prelude.{Option, Some, None, Result, Ok, Err}
use Rattle.keyring_reader.specs.declared.fault.KeyringFault.{KeyringFault}

-- what follows where this is right
infixl 10 ◌>>=◌
abbrev pub ◌>>=◌ : {A B : Type 0} → Result A KeyringFault → (A → Result B KeyringFault) → Result B KeyringFault
Ok x >>= f = f x
Err why >>= f = Err why

-- the answer, unless there is a fault before it
abbrev pub unless : {A : Type 0} → Option KeyringFault → Result A KeyringFault → Result A KeyringFault
unless (Some why) answer = Err why
unless None answer = answer
