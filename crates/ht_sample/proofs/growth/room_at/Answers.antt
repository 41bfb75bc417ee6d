use Rattle.ht_sample.proofs.WholeLaws.{room_behind, room_before}
use Rattle.ht_sample.proofs.growth.room_at.Goals as goal

pub returns-in-Some-clause-room : goal.returns-in-Some-clause-room
returns-in-Some-clause-room c = room_behind c.args.words.now c.args.from c.in-Some.behind c.in-Some.ensures

pub returns-in-None-clause-room : goal.returns-in-None-clause-room
returns-in-None-clause-room c = room_before c.args.words.now c.args.from c.first_room-in-None.result c.in-None.ensures c.first_room-in-None.ensures
