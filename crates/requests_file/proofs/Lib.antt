mod RequestRows
mod RequestsTogether
mod RequestsReading
mod RequestsMean
