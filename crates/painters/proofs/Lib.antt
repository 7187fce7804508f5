mod Painters
mod Walks
