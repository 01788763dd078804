pub mod StepText
pub mod StepForm
pub mod StepFields
pub mod StepRow
pub mod StepsFile
pub mod StepsReading
