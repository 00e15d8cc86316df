use Rattle.fx_store.proofs.stores.Store.count.Given as goal

abbrev pub ghosts-count_from : goal.ghosts-count_from
ghosts-count_from a = record { name = a.blank.name; parts = a.blank.parts }
