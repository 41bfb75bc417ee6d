use Rattle.ht_pair.proofs.ValueListLaws.{cone_value, followed_image, followed_once}
use Rattle.ht_laws.proofs.powers.what_follows_a_word_is_its_image.Goals as goal

pub returns-clause-cone : goal.returns-clause-cone
returns-clause-cone c = cone_value

pub returns-clause-image : goal.returns-clause-image
returns-clause-image c = followed_image

pub returns-clause-one : goal.returns-clause-one
returns-clause-one c = followed_once
