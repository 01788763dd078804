mod Lives
mod Parts
