use Rattle.fx_store.proofs.stores.Store.some_fits.Given as goal

abbrev pub ghosts-some_fits_from : goal.ghosts-some_fits_from
ghosts-some_fits_from a = record { name = a.blank.name; parts = a.blank.parts }
