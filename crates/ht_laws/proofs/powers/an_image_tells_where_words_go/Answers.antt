use Rattle.ht_pair.proofs.ImageLaws.{entry_carried, image_covers, image_once}
use Rattle.ht_laws.proofs.powers.an_image_tells_where_words_go.Goals as goal

pub returns-clause-carries : goal.returns-clause-carries
returns-clause-carries c = entry_carried

pub returns-clause-covers : goal.returns-clause-covers
returns-clause-covers c = image_covers

pub returns-clause-one : goal.returns-clause-one
returns-clause-one c = image_once
