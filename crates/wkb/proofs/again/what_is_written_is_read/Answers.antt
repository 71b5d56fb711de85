use Rattle.wkb.proofs.ReadAgain.{multipolygon-again, polygon-again}
use Rattle.wkb.proofs.again.what_is_written_is_read.Goals as goal

pub returns-clause-multipolygon : goal.returns-clause-multipolygon
returns-clause-multipolygon c = multipolygon-again

pub returns-clause-each_polygon : goal.returns-clause-each_polygon
returns-clause-each_polygon c = polygon-again
