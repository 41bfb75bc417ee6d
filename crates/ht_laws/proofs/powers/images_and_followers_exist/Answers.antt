use Rattle.ht_pair.proofs.ValueListLaws.{followed_none, followed_then}
use Rattle.ht_laws.proofs.FollowerExistence.{follower_exists, image_exists}
use Rattle.ht_laws.proofs.powers.images_and_followers_exist.Goals as goal

pub returns-clause-image : goal.returns-clause-image
returns-clause-image c = image_exists

pub returns-clause-follower : goal.returns-clause-follower
returns-clause-follower c = follower_exists

pub returns-clause-none : goal.returns-clause-none
returns-clause-none c = followed_none

pub returns-clause-sum : goal.returns-clause-sum
returns-clause-sum c = followed_then
