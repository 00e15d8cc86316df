use Rattle.fx_local.proofs.reports.write_triples_error.Goals as goal

pub returns-in-BadUtf8 : goal.returns-in-BadUtf8
returns-in-BadUtf8 g c = rw c.in-BadUtf8.is c.write_number.ensures

pub returns-in-Bad : goal.returns-in-Bad
returns-in-Bad g c = rw c.in-Bad.is c.write_place.ensures

pub returns-in-Blank : goal.returns-in-Blank
returns-in-Blank g c = rw c.in-Blank.is c.write_place-in-Blank.ensures

pub returns-in-Relative : goal.returns-in-Relative
returns-in-Relative g c = rw c.in-Relative.is c.write_place-in-Relative.ensures
