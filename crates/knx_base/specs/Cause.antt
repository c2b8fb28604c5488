-- Statement: the words in which refusals name the cause of a refused line.
use Rattle.std.specs.Prelude.{ℕ, List, codes}
use Rattle.knx_base.specs.declared.cause.Cause.{Cause}
use Rattle.knx_base.specs.declared.cause.Cause.TheVariants.{Words, Address, Key, Level, Role, Any, Name, Lane, Number, Flags, Size, Value, Service, Digits, Long}

abbrev pub cause_word : Cause → List ℕ
cause_word Words = codes "words"
cause_word Address = codes "address"
cause_word Key = codes "key"
cause_word Level = codes "level"
cause_word Role = codes "role"
cause_word Any = codes "any"
cause_word Name = codes "name"
cause_word Lane = codes "lane"
cause_word Number = codes "number"
cause_word Flags = codes "flags"
cause_word Size = codes "size"
cause_word Value = codes "value"
cause_word Service = codes "service"
cause_word Digits = codes "digits"
cause_word Long = codes "long"
