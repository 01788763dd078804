mod ByteNumbers
mod GeneratorDraws
mod GeneratorRequests
mod GeneratorLegal
