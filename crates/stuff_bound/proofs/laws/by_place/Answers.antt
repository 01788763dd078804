use Rattle.stuff_bound.proofs.Places.{StuffsByPlace_from_Stuffs, Stuffs_from_StuffsByPlace, HasFirstSixthByPlace_from_HasFirstSixth, HasFirstSixth_from_HasFirstSixthByPlace, EndsInFiveByPlace_from_EndsInFive, EndsInFive_from_EndsInFiveByPlace}
use Rattle.stuff_bound.proofs.laws.by_place.Goals as goal

pub returns : goal.returns
returns c = record {
  stuffs = λ wire plain. (StuffsByPlace_from_Stuffs wire plain, Stuffs_from_StuffsByPlace wire plain);
  sixth = λ wire place. (HasFirstSixthByPlace_from_HasFirstSixth wire place, HasFirstSixth_from_HasFirstSixthByPlace wire place);
  five = λ wire. (EndsInFiveByPlace_from_EndsInFive wire, EndsInFive_from_EndsInFiveByPlace wire);
}
