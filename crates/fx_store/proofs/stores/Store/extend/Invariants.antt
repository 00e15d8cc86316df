use Rattle.fx_store.proofs.stores.Store.extend.Given as goal

abbrev pub ghosts-extend_from : goal.ghosts-extend_from
ghosts-extend_from a = record { name = a.blank.name; parts = a.blank.parts }
