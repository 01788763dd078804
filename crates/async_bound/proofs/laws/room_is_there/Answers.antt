use Rattle.async_bound.proofs.Room.{room-least}
use Rattle.async_bound.proofs.laws.room_is_there.Goals as goal

pub returns : goal.returns
returns c = record { room = λ layout longest low span known. room-least layout longest known low span }
