use Rattle.std.proofs.Common.{map, None, refl, sym, subst}
use Rattle.std.specs.Prelude.{IsSome}
use Rattle.knx_base.specs.Files.{octets_named}
use Rattle.knx_base.specs.Shelf.{ShelfState, file_of}
use Rattle.knx_base.proofs.ShelfLemmas.{first_found, never_missing, listed}
use Rattle.knx_base.proofs.shelf.Shelf.fail_to_open.Goals as goal

pub returns-in-Some : goal.returns-in-Some
returns-in-Some c =
    let first =
    first_found c.self.inside.files.items _ _ _ _ c.deref.ensures.value c.position_named.ensures c.in-Some.is in
    record {
      closed = rw (← c.self.view_is) (λ i. record {
        files = c.self.inside.files.items;
        current = None;
        opened = listed _ _ _ _ _ _ c.index.result.now.place _ _ _ first c.index.ensures refl c.name.ensures.name
            c.note.ensures.noted i;
      });
    }

pub returns-in_default : goal.returns-in_default
returns-in_default c =
    let IsThere : ShelfState → Type 0 = λ shelf. IsSome (octets_named (map file_of shelf.files) c.args.name.now) in
    let there = subst IsThere (sym c.self.view_is) c.requires.there in
    absurd (never_missing c.self.inside.files.items _ _ _ c.deref.ensures.value c.position_named.ensures c.in_default.is
    there)
