mod ChosenLemmas
mod EndLemmas
mod StreamedLemmas
