use Rattle.fx_store.proofs.stores.Store.has.Given as goal

abbrev pub ghosts-has_from : goal.ghosts-has_from
ghosts-has_from a = record { name = a.blank.name; parts = a.blank.parts }
