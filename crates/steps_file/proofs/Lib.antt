mod ListParts
mod StepLines
mod StepMeaning
mod StepsLegal
mod StepsSaid
mod StepDrafts
mod StepsReading
