mod FetchLemmas
mod TaskLemmas
