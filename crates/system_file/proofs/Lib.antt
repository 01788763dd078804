mod SystemElements
mod SystemFirst
mod SystemKeys
mod SystemOwners
mod SystemPaths
